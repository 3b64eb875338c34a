-- Members that are all home, and that heard all that each told, heard of all spread boards.
use Rattle.std.proofs.Common.{◌≡◌, ◌≢◌, inl, inr, ℕ, zero, suc, ◌/◌, ◌<◌, List, [], ◌∷◌, length, map, get_or, sum, ℤ, refl, sym, ap, subst, subst₂, ◌∙◌, arith}
use Rattle.std.proofs.lemmas.Bool.{cases_eq, cases_lt}
use Rattle.std.proofs.lemmas.List.{get_or-map, length-map}
use Rattle.awari_board.specs.Rules.{IsBoard, next_board}
use Rattle.awari_rank.specs.Rank.{rank_of}
use Rattle.awari_block.specs.Notes.{Has, IsNoteOf, IsQuietMove}
use Rattle.awari_block.specs.Part.{Part, InBlock, notes_for}
use Rattle.awari_block.proofs.NoteLists.{Has-notes_for, has_for}
use Rattle.awari_block.specs.declared.notes.Note.{Note}
use Rattle.awari_heard.specs.Heard.{Hears, IsSpread}
use Rattle.awari_heard.specs.Level.{AreHeard, no_part, part_at}
use Rattle.awari_heard.proofs.SpreadBoards.{IsInjective}
use Rattle.awari_lines.specs.Rings.{IsOther, owners_of, received_from, sent_to}
use Rattle.awari_lines.specs.declared.ends.Ends.{Ends}
use Rattle.awari_crew.specs.Homes.{AreHome, brought, ends_of}
use Rattle.awari_crew.specs.Members.{ears, told_by, told_to}
use Rattle.awari_segments.specs.Tellings.{HearsAll, Tell, TellSpread, Telling}
use Rattle.awari_crew.specs.declared.homes.Home.{Home}
use Rattle.awari_crew.specs.declared.letters.Letter.{Letter}
use Rattle.awari_crew.proofs.Sounds.{ears_other, ears_own}

-- ---- lists

pub has_get : {A : Type 0} → (xs : List A) (i : ℕ) (d : A) → i < length xs → Has xs (get_or xs i d)
has_get [] i d h = absurd (omega arith)
has_get (x ∷ xs) zero d h = inl refl
has_get (x ∷ xs) (suc i) d h = inr (has_get xs i d (omega (arith, h)))

pub get_has : {A : Type 0} → (xs : List A) (x d : A) → Has xs x → (i : ℕ) × (i < length xs) × (x ≡ get_or xs i d)
get_has [] x d has = elim has [ ]
get_has (y ∷ ys) x d (inl same) = (0, omega arith, same)
get_has (y ∷ ys) x d (inr later) = let r = get_has ys x d later in (suc r.0, (let low = r.1 in omega (arith, low)), r.2)

-- a member is sound, and this is all that it told
pub record IsSoundAs (value : List ℕ → ℤ) (level span : ℕ) (e : Ends Letter) (parts : List Part) (tellings : List Telling) : Type 0 where
  pub sent : (j : ℕ) → IsOther e j → told_to e j ≡ tellings
  pub spread : TellSpread level span parts tellings
  pub hears : (i : ℕ) → i < length parts → HearsAll value span (owners_of e) (ears e tellings) (part_at parts i)

module _ (value : List ℕ → ℤ) (level span : ℕ) (homes : List Home) (x : Home) (injective : IsInjective) (are : AreHome value level span homes)
    (all : (i j : ℕ) (d : Ends Letter) → i < length homes → j < length homes → i ≢ j → received_from (get_or (map ends_of homes) i d) j ≡ sent_to (get_or (map ends_of homes) j d) i) where
  abbrev at : ℕ → Home
  at i = get_or homes i x

  ends_at : (i : ℕ) → i < length homes → get_or (map ends_of homes) i x.ends ≡ (at i).ends
  ends_at i low = get_or-map ends_of homes i x x.ends low

  many : length (map ends_of homes) ≡ length homes
  many = length-map homes ends_of

  number : (i : ℕ) → i < length homes → (at i).ends.owner ≡ i
  number i low = subst (λ (e : Ends Letter). e.owner ≡ i) (ends_at i low) (are.grid.owner i x.ends (let m = many in omega (arith, low, m)))

  members : (i : ℕ) → i < length homes → owners_of (at i).ends ≡ length homes
  members i low = subst (λ (e : Ends Letter). owners_of e ≡ length homes) (ends_at i low) (are.grid.owners i x.ends (let m = many in omega (arith, low, m)) ∙ many)

  pub sound_as : (i : ℕ) → (tellings : List Telling) × (i < length homes → IsSoundAs value level span (at i).ends (brought (at i)) tellings)
  sound_as i = elim (cases_lt i (length homes)) [
    | inl low ↦ (let s = are.sound (at i) (has_get homes i x low) in (s.tellings, λ few. record { sent = s.sent; spread = s.spread; hears = s.hears }))
    | inr high ↦ ([], λ low. absurd (omega (arith, low, high)))
  ]

  abbrev tellings : ℕ → List Telling
  tellings i = (sound_as i).0

  sound : (i : ℕ) → i < length homes → IsSoundAs value level span (at i).ends (brought (at i)) (tellings i)
  sound i low = (sound_as i).1 low

  -- what member i heard of member j is what that told
  ears_are : (i j : ℕ) → i < length homes → j < length homes → ears (at i).ends (tellings i) j ≡ tellings j
  ears_are i j low few = elim (cases_eq i j) [
    | inl same ↦ subst (λ k. ears (at i).ends (tellings i) k ≡ tellings k) same (subst (λ k. ears (at i).ends (tellings i) k ≡ tellings i) (number i low) (ears_own (at i).ends (tellings i)))
    | inr other ↦
        ears_other (at i).ends (tellings i) j (λ e. other (sym (e ∙ number i low)))
        ∙ ap (map told_by) (subst₂ (λ (a b : Ends Letter). received_from a j ≡ sent_to b i) (ends_at i low) (ends_at j few) (all i j x.ends low few other))
        ∙ (sound j few).sent i ((λ e. other (e ∙ number j few)), (let n = members j few in omega (arith, low, n)))
  ]

  -- a part that was brought home
  abbrev pub IsBrought : Part → Type 0
  IsBrought part = (i : ℕ) × (i < length homes) × Has (brought (at i)) part

  module _ (levels : (part : Part) → IsBrought part → part.level ≡ level) (aligned : (part : Part) → IsBrought part → (rank : ℕ) → InBlock part rank → rank / span ≡ part.start / span)
      (apart : (a b : Part) → IsBrought a → IsBrought b → (rank : ℕ) → InBlock a rank → InBlock b rank → a ≡ b) where
    -- what a part heard of all members
    pub heard_part : (part : Part) → IsBrought part → (i : ℕ) × (i < length homes) × HearsAll value span (length homes) (ears (at i).ends (tellings i)) part
    heard_part part (i, low, has) =
        let place = get_has (brought (at i)) part no_part has in
        (i, low, subst₂ (λ n p. HearsAll value span n (ears (at i).ends (tellings i)) p) (members i low) (sym place.2) ((sound i low).hears place.0 place.1))

    module _ (part source : Part) (here : IsBrought part) (there : IsBrought source) where
      abbrev ear : HearsAll value span (length homes) (ears (at (heard_part part here).0).ends (tellings (heard_part part here).0)) part
      ear = (heard_part part here).2

      hears_truth : (p : List ℕ) (y : ℕ) (q : List ℕ) → IsBoard p → sum p ≡ part.level → InBlock part (rank_of p) → InBlock source (rank_of q) → IsQuietMove p y q → (m : Note) → Has (notes_for (rank_of p) ear.heard) m → m.pit ≡ y
          → (v : ℤ) × (d : ℕ) × IsSpread source (rank_of q) v d × IsNoteOf q v d p y m
      hears_truth p y q board stones inside held quiet m has pit =
          let own = Has-notes_for (rank_of p) ear.heard m has in
          let told = ear.told m own.0 in
          let tell = subst (λ (ts : List Telling). Tell ts (part.start / span) m) (ears_are (heard_part part here).0 told.0 (heard_part part here).1 told.1) told.2 in
          let by = (sound told.0 told.1).spread.true_notes (part.start / span) m tell in
          let same_board : by.p ≡ p = injective by.p p by.board board (by.stones ∙ sym (levels part here) ∙ sym stones) (sym by.note.target ∙ own.1) in
          let same_pit : by.x ≡ y = sym by.note.pit ∙ pit in
          let same : by.q ≡ q = by.note.quiet.leaves ∙ ap (next_board by.p) same_pit ∙ ap (λ b. next_board b y) same_board ∙ sym quiet.leaves in
          let from : IsBrought (part_at (brought (at told.0)) by.at) = (told.0, told.1, has_get (brought (at told.0)) by.at no_part by.inside) in
          let is_source : part_at (brought (at told.0)) by.at ≡ source = apart _ source from there (rank_of q) (subst (λ b. InBlock (part_at (brought (at told.0)) by.at) (rank_of b)) same by.held) held in (
            by.v,
            by.d,
            subst₂ (λ (s : Part) b. IsSpread s (rank_of b) by.v by.d) is_source same by.spread,
            subst (λ b. IsNoteOf b by.v by.d p y m) same (subst₂ (λ b z. IsNoteOf by.q by.v by.d b z m) same_board same_pit by.note),
          )

      hears_all : (p : List ℕ) (y : ℕ) (q : List ℕ) (v : ℤ) (d : ℕ) → IsBoard p → sum p ≡ part.level → InBlock part (rank_of p) → InBlock source (rank_of q) → IsQuietMove p y q → IsSpread source (rank_of q) v d
          → (m : Note) × Has (notes_for (rank_of p) ear.heard) m × IsNoteOf q v d p y m
      hears_all p y q v d board stones inside held quiet spread =
          let place = get_has (brought (at there.0)) source no_part there.2 in
          let told = (sound there.0 there.1).spread.all_notes place.0 p q y v d place.1 board (stones ∙ levels part here) (subst (λ (s : Part). InBlock s (rank_of q)) place.2 held) quiet (subst (λ (s : Part). IsSpread s (rank_of q) v d) place.2 spread) in
          let tell = subst (λ (ts : List Telling). Tell ts (part.start / span) told.0) (sym (ears_are (heard_part part here).0 there.0 (heard_part part here).1 there.1)) (subst (λ k. Tell (tellings there.0) k told.0) (aligned part here (rank_of p) inside) told.1) in
          (told.0, has_for (rank_of p) ear.heard told.0 (ear.all there.0 told.0 there.1 tell) told.2.target, told.2)

      hears_source : Hears source part ear.heard
      hears_source = record { true_notes = hears_truth; all_notes = hears_all }

    -- these parts, in any order, heard of all spread boards
    pub all_heard : (parts : List Part) → ((part : Part) → Has parts part → IsBrought part) → AreHeard value parts
    all_heard parts among k d low =
        let part : Part = get_or parts k d in
        let here = among part (has_get parts k d low) in
        ((heard_part part here).2.heard, (heard_part part here).2.tallied, λ j e few. hears_source part (get_or parts j e) here (among (get_or parts j e) (has_get parts j e few)))
