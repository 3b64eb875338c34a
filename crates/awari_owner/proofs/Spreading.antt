-- What the notes of a board that is spread make of its own part.
use Rattle.std.proofs.Common.{◌≡◌, ◌↔◌, IsTrue, ℕ, ◌+◌, ◌-◌, ◌<◌, ◌≤◌, ◌==◌, Bool, true, false, ◌&&◌, cond, if◌then◌else◌, nat_le, nat_lt, List, [], ◌∷◌, ◌++◌, length, get_or, sum, ℤ, All, Contains, refl, sym, ap, subst, ◌∙◌, arith, map, filter}
use Rattle.std.proofs.lemmas.Bool.Decides.{nat_tests}
use Rattle.std.proofs.lemmas.List.{get_or_default}
use Rattle.std.specs.List.Sorted.{IsPermutation}
use Rattle.awari_block.proofs.BlockLemmas.{times_due-cons, times_due-permuted}
use Rattle.awari_board.specs.Rules.{IsBoard}
use Rattle.awari_rank.specs.Rank.{rank_of}
use Rattle.awari_block.specs.Notes.{IsQuietMove, is_heard_at, Has}
use Rattle.awari_block.specs.Blocks.{Due, due_rank, times_due, is_settled_in, JoinNewlySettled}
use Rattle.awari_block.specs.Part.{Part, InBlock, SameLevel, notes_for}
use Rattle.awari_block.specs.Boards.{HearsNote}
use Rattle.awari_scan.specs.Found.{Source}
use Rattle.awari_owner.specs.Spread.{is_held, note_to, own_notes, AreNotesOf}
use Rattle.awari_heard.specs.Heard.{HearsOwn, HearsNotes, AreUnheard, IsUnheard}
use Rattle.awari_unmove.specs.Predecessors.{IsPredecessors, ComesBefore}
use Rattle.awari_block.specs.declared.notes.Note.{Note}
use Rattle.awari_block.specs.declared.notes.Kind.{Kind}
use Rattle.awari_block.specs.declared.cells.Cell.{Cell}
use Rattle.awari_heard.proofs.SpreadBoards.{IsInjective}
use Rattle.awari_block.proofs.NoteLists.{heard_note}
use Rattle.awari_heard.proofs.Coming.{hears_none, hears_one, hears_then, all_unheard}
use Rattle.awari_owner.proofs.SpreadNotes.{Has-filter, filter_once, notes_once, source_of}
use Rattle.std.specs.List.{AllPairs}

pub held_is : (a b n : ℕ) → a ≤ b → b - a < n → (nat_le a b && nat_lt (b - a) n) ≡ true
held_is a b n h k = grind (arith, nat_tests)

-- what the test says of the block
pub held_inside : (part : Part) (rank : ℕ) → is_held part rank ≡ true → InBlock part rank
held_inside part rank e = (low part.start rank (length part.cells) e, high part.start rank (length part.cells) e)
  where
    low : (a b n : ℕ) → (nat_le a b && nat_lt (b - a) n) ≡ true → a ≤ b
    low a b n e = grind (arith, nat_tests)

    high : (a b n : ℕ) → (nat_le a b && nat_lt (b - a) n) ≡ true → b - a < n
    high a b n e = grind (arith, nat_tests)

-- so it is the same as any other test of that
pub held_by : (part : Part) (rank : ℕ) (b : Bool) → IsTrue b ↔ InBlock part rank → is_held part rank ≡ b
held_by part rank true is = let inside = is.0 (grind arith) in held_is part.start rank (length part.cells) inside.0 inside.1
held_by part rank false is = by (is_held part rank) refl
  where
    never : IsTrue false → ⊥
    never t = grind arith

    by : (h : Bool) → is_held part rank ≡ h → is_held part rank ≡ false
    by false e = e
    by true e = absurd (never (is.1 (held_inside part rank e)))

-- and what it says hangs on the block's bounds alone
pub held_still : (part other : Part) (rank : ℕ) → other.start ≡ part.start → length other.cells ≡ length part.cells → is_held other rank ≡ is_held part rank
held_still part other rank start size =
    ap (λ s. nat_le s rank && nat_lt (rank - s) (length other.cells)) start ∙ ap (λ n. nat_le part.start rank && nat_lt (rank - part.start) n) size

-- a source of the block hears its note
pub told_here : (part new : Part) (kind : Kind) (y : Source) → IsInjective → 1 ≤ part.gain → is_held part (rank_of y.0) ≡ true → y.1 < 6
    → SameLevel part new → HearsNote part new (rank_of y.0) y.1 kind → HearsNotes (own_notes part kind (y ∷ [])) part new
told_here part new kind y injective one held own same hears =
    subst (λ b. HearsNotes (cond b (note_to part kind y ∷ []) []) part new) (sym held)
    (hears_one part new (note_to part kind y) injective one refl refl (held_inside part (rank_of y.0) held) own same hears)

-- and one of another block changes nothing
pub told_outside : (part : Part) (kind : Kind) (y : Source) → is_held part (rank_of y.0) ≡ false → HearsNotes (own_notes part kind (y ∷ [])) part part
told_outside part kind y out = subst (λ b. HearsNotes (cond b (note_to part kind y ∷ []) []) part part) (sym out) (hears_none part)

-- which notes are given hangs on what is open and on the block's bounds alone
own_same : (part other : Part) (kind : Kind) (sources : List Source) → other.level ≡ part.level → other.gain ≡ part.gain → other.wave ≡ part.wave → other.start ≡ part.start
    → length other.cells ≡ length part.cells → own_notes other kind sources ≡ own_notes part kind sources
own_same part other kind sources level gain wave start len = λ i.
    filter (λ (m : Note). nat_le (start i) m.target && nat_lt (m.target - start i) (len i))
    (map (λ (y : Source). record { level = level i; target = rank_of y.0; pit = y.1; kind = kind; gain = gain i; dist = wave i }) sources)

own_append : (part : Part) (kind : Kind) (xs ys : List Source) → own_notes part kind (xs ++ ys) ≡ own_notes part kind xs ++ own_notes part kind ys
own_append part kind [] ys = refl
own_append part kind (x ∷ xs) ys = by (is_held part (rank_of x.0)) (own_append part kind xs ys)
  where
    by : (b : Bool) → own_notes part kind (xs ++ ys) ≡ own_notes part kind xs ++ own_notes part kind ys
        → cond b (note_to part kind x ∷ own_notes part kind (xs ++ ys)) (own_notes part kind (xs ++ ys)) ≡ cond b (note_to part kind x ∷ own_notes part kind xs) (own_notes part kind xs) ++ own_notes part kind ys
    by true rest = ap (λ l. note_to part kind x ∷ l) rest
    by false rest = rest

-- ---- one source more

pub told_more : (old now new : Part) (kind : Kind) (seen : List Source) (y : Source)
    → now.level ≡ old.level → now.gain ≡ old.gain → now.wave ≡ old.wave → now.start ≡ old.start → length now.cells ≡ length old.cells
    → HearsNotes (own_notes old kind seen) old now → HearsNotes (own_notes now kind (y ∷ [])) now new → HearsNotes (own_notes old kind (seen ++ y ∷ [])) old new
told_more old now new kind seen y level gain wave start len before one =
    subst (λ ms. HearsNotes ms old new) (sym (own_append old kind seen (y ∷ [])))
    (hears_then (own_notes old kind seen) (own_notes old kind (y ∷ [])) old now new level before (subst (λ ms. HearsNotes ms now new) (own_same old now kind (y ∷ []) level gain wave start len) one))

-- ---- why the pits are not heard

-- ---- predecessors

-- boards and pits whose quiet move gives q, all of them, each once
pub record AreSources (q : List ℕ) (sources : List Source) : Type 0 where
  pub each : All (λ y. IsBoard y.0 × (sum y.0 ≡ sum q) × IsQuietMove y.0 y.1 q) sources
  pub every : (p : List ℕ) (x : ℕ) → IsBoard p → IsQuietMove p x q → Contains sources (p, x)
  pub ordered : AllPairs ComesBefore sources

pub sources_of : (q : List ℕ) (sources : List Source) → ((p : List ℕ) (x : ℕ) → IsBoard p → IsQuietMove p x q → sum q + 0 ≡ sum p) → IsPredecessors q sources → AreSources q sources
sources_of q sources keeps are = record {
  each = λ k d h.
      let y : Source = get_or sources k d in
      let quiet = (are.listed y.0 y.1).0 (k, h, get_or_default sources k y d h) in
      (quiet.board, omega (arith, keeps y.0 y.1 quiet.board quiet.move), quiet.move);
  every = λ p x is move. (are.listed p x).1 (record { board = is; move = move });
  ordered = are.ordered;
}

-- a board that is fresh was not heard of in its block
pub unheard_sources : (part : Part) (kind : Kind) (notes : List Note) (q : List ℕ) (v : ℤ) (w : ℕ) (sources : List Source) → IsInjective → HearsOwn part notes → AreSources q sources
    → AreNotesOf q v w sources (map (note_to part kind) sources)
    → sum q ≡ part.level → InBlock part (rank_of q) → 0 < times_due part.fresh (rank_of q) → AreUnheard part.level (own_notes part kind sources) notes
unheard_sources part kind notes q v w sources injective own are gives stones inside fresh =
    all_unheard part.level (own_notes part kind sources) notes each
    (filter_once (λ m. is_held part m.target) (map (note_to part kind) sources) (notes_once injective q v w sources (map (note_to part kind) sources) gives are.each are.ordered))
  where
    each : (m : Note) → Has (own_notes part kind sources) m → IsUnheard part.level notes m
    each m has =
        let mine = Has-filter (λ (n : Note). is_held part n.target) (map (note_to part kind) sources) m has in
        let (j, low, note) = source_of q v w sources (map (note_to part kind) sources) gives m mine.0 in
        let y : Source = get_or sources j (q, 0) in
        let here = are.each j (q, 0) low in
        let fits = note (q, 0) in
        (y.0, q, here.0, here.1 ∙ stones, sym fits.target, subst (λ x. IsQuietMove y.0 x q) (sym fits.pit) here.2, unheard m y here.0 (here.1 ∙ stones) here.2 fits.target fits.pit (held_inside part m.target mine.1))
      where
        unheard : (m : Note) (y : Source) → IsBoard y.0 → sum y.0 ≡ part.level → IsQuietMove y.0 y.1 q → m.target ≡ rank_of y.0 → m.pit ≡ y.1 → InBlock part m.target
            → is_heard_at (notes_for m.target notes) m.pit ≡ false
        unheard m y board level quiet target pit held = by (is_heard_at (notes_for m.target notes) m.pit) refl
          where
            by : (b : Bool) → is_heard_at (notes_for m.target notes) m.pit ≡ b → b ≡ false
            by false e = refl
            by true e = absurd (
                let note = heard_note (notes_for m.target notes) m.pit e in
                let told = own.true_notes y.0 y.1 q board level (subst (InBlock part) target held) inside quiet note.0 (subst (λ r. Has (notes_for r notes) note.0) target note.1) (note.2 ∙ pit) in
                let none = told.2.1 in omega (arith, none, fresh))

-- the fresh boards once the first is taken and others joined
pub joined_but : (start start' : ℕ) (cells cells' : List Cell) (fresh rest after : List Due) (f : Due) → IsPermutation (f ∷ rest) fresh → JoinNewlySettled start cells rest cells' after
    → (r : ℕ) → times_due after r + (if is_settled_in start cells r then 1 else 0) + (if due_rank f == r then 1 else 0) ≡ times_due fresh r + (if is_settled_in start cells' r then 1 else 0)
joined_but start start' cells cells' fresh rest after f moved joined r =
    let count = times_due-permuted (f ∷ rest) fresh r moved in
    let cons = times_due-cons f rest r in
    omega (arith, joined r, count, cons)
