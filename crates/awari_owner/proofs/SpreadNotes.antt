-- The notes that a spread board gives, those among them for one block, and those of the own one.
use Rattle.std.proofs.Common.{◌≡◌, ℕ, zero, suc, ◌<◌, ◌⊎◌, inl, inr, Bool, true, false, cond, List, [], ◌∷◌, length, get_or, filter, sum, ℤ, pos, neg_ℤ, ◌<ℤ◌, All, refl, sym, ap, subst, ◌∙◌, arith, map}
use Rattle.std.specs.List.{AllPairs}
use Rattle.std.proofs.lemmas.Int.{ints}
use Rattle.std.proofs.lemmas.Bool.{false≢true}
use Rattle.awari_board.specs.Rules.{IsBoard}
use Rattle.awari_unmove.specs.Predecessors.{ComesBefore}
use Rattle.awari_block.specs.Notes.{IsQuietMove, Has, IsNoteOf, gain_by}
use Rattle.awari_block.specs.Cells.{IsEither}
use Rattle.awari_block.specs.Part.{Part}
use Rattle.awari_scan.specs.Found.{Source}
use Rattle.awari_owner.specs.Spread.{AreNotesOf, note_to}
use Rattle.awari_block.specs.declared.notes.Kind.{Kind}
use Rattle.awari_block.specs.declared.notes.Kind.TheVariants.{Won, Lost}
use Rattle.awari_block.specs.declared.notes.Note.{Note}
use Rattle.awari_heard.proofs.SpreadBoards.{IsInjective}
use Rattle.awari_heard.specs.Heard.{AreOfOtherMoves}
use Rattle.awari_scan.proofs.Finding.{not_before_itself}

-- ---- notes of a board

pub source_of : (q : List ℕ) (v : ℤ) (w : ℕ) (sources : List Source) (notes : List Note) → AreNotesOf q v w sources notes → (m : Note) → Has notes m
    → (j : ℕ) × (j < length sources) × ((d : Source) → IsNoteOf q v w (get_or sources j d).0 (get_or sources j d).1 m)
source_of q v w [] [] are m has = absurd has
source_of q v w [] (k ∷ notes) are m has = absurd are
source_of q v w (y ∷ sources) [] are m has = absurd has
source_of q v w (y ∷ sources) (k ∷ notes) are m (inl e) = (0, omega arith, λ d. subst (IsNoteOf q v w y.0 y.1) (sym e) are.0)
source_of q v w (y ∷ sources) (k ∷ notes) are m (inr has) = let (j, low, note) = source_of q v w sources notes are.1 m has in (suc j, omega (arith, low), note)

pub note_of : (q : List ℕ) (v : ℤ) (w : ℕ) (sources : List Source) (notes : List Note) → AreNotesOf q v w sources notes → (j : ℕ) (d : Source) → j < length sources
    → (m : Note) × Has notes m × IsNoteOf q v w (get_or sources j d).0 (get_or sources j d).1 m
note_of q v w [] notes are j d h = absurd (omega (arith, h))
note_of q v w (y ∷ sources) [] are j d h = absurd are
note_of q v w (y ∷ sources) (k ∷ notes) are zero d h = (k, inl refl, are.0)
note_of q v w (y ∷ sources) (k ∷ notes) are (suc j) d h = let (m, has, note) = note_of q v w sources notes are.1 j d (omega (arith, h)) in (m, inr has, note)

pub gives_by : (part : Part) (q : List ℕ) (score : ℤ) (kind : Kind) (sources : List Source)
    → ((y : Source) → IsQuietMove y.0 y.1 q → sum y.0 ≡ part.level → IsNoteOf q score part.wave y.0 y.1 (note_to part kind y))
    → All (λ (y : Source). IsBoard y.0 × (sum y.0 ≡ sum q) × IsQuietMove y.0 y.1 q) sources → sum q ≡ part.level
    → AreNotesOf q score part.wave sources (map (note_to part kind) sources)
gives_by part q score kind [] fits each level = tt
gives_by part q score kind (y ∷ sources) fits each level =
    let here = each 0 y (omega arith) in
    (fits y here.2 (here.1 ∙ level), gives_by part q score kind sources fits (λ k d h. each (suc k) d (omega (arith, h))) level)

-- the notes of a board are of moves of their own
pub notes_once : IsInjective → (q : List ℕ) (v : ℤ) (w : ℕ) (sources : List Source) (notes : List Note) → AreNotesOf q v w sources notes
    → All (λ (y : Source). IsBoard y.0 × (sum y.0 ≡ sum q) × IsQuietMove y.0 y.1 q) sources → AllPairs ComesBefore sources → AreOfOtherMoves notes
notes_once injective q v w [] [] are each pairs = tt
notes_once injective q v w [] (m ∷ notes) are each pairs = absurd are
notes_once injective q v w (y ∷ sources) [] are each pairs = tt
notes_once injective q v w (y ∷ sources) (m ∷ notes) are each pairs = (
  λ k has target pit.
      let (j, low, note) = source_of q v w sources notes are.1 k has in
      let there = each (suc j) y (omega (arith, low)) in
      let here = each 0 y (omega arith) in
      let boards : y.0 ≡ (get_or sources j y).0 = injective y.0 (get_or sources j y).0 here.0 there.0 (here.1 ∙ sym there.1) (sym are.0.target ∙ sym target ∙ (note y).target) in
      let pits : y.1 ≡ (get_or sources j y).1 = sym are.0.pit ∙ sym pit ∙ (note y).pit in
      not_before_itself y (get_or sources j y) boards pits (pairs 0 (suc j) y (omega arith) (omega (arith, low))),
  notes_once injective q v w sources notes are.1 (λ k d h. each (suc k) d (omega (arith, h))) (λ a b d h k. pairs (suc a) (suc b) d (omega (arith, h)) (omega (arith, k))),
)

-- ---- a choice of notes

pub Has-filter : (test : Note → Bool) (notes : List Note) (m : Note) → Has (filter test notes) m → Has notes m × (test m ≡ true)
Has-filter test [] m h = absurd h
Has-filter test (k ∷ notes) m h = at (test k) refl h (Has-filter test notes m)
  where
    at : (b : Bool) → test k ≡ b → Has (cond b (k ∷ filter test notes) (filter test notes)) m → (Has (filter test notes) m → Has notes m × (test m ≡ true)) → Has (k ∷ notes) m × (test m ≡ true)
    at true e (inl same) rest = (inl same, ap test same ∙ e)
    at true e (inr has) rest = let found = rest has in (inr found.0, found.1)
    at false e has rest = let found = rest has in (inr found.0, found.1)

pub Has-chosen : (test : Note → Bool) (notes : List Note) (m : Note) → Has notes m → test m ≡ true → Has (filter test notes) m
Has-chosen test [] m h e = absurd h
Has-chosen test (k ∷ notes) m h e = at (test k) refl h (λ has. Has-chosen test notes m has e)
  where
    at : (b : Bool) → test k ≡ b → Has (k ∷ notes) m → (Has notes m → Has (filter test notes) m) → Has (cond b (k ∷ filter test notes) (filter test notes)) m
    at true f (inl same) rest = inl same
    at true f (inr has) rest = inr (rest has)
    at false f (inl same) rest = absurd (false≢true (sym f ∙ ap test (sym same) ∙ e))
    at false f (inr has) rest = rest has

pub filter_once : (test : Note → Bool) (notes : List Note) → AreOfOtherMoves notes → AreOfOtherMoves (filter test notes)
filter_once test [] once = tt
filter_once test (k ∷ notes) once = at (test k) (filter_once test notes once.1)
  where
    at : (b : Bool) → AreOfOtherMoves (filter test notes) → AreOfOtherMoves (cond b (k ∷ filter test notes) (filter test notes))
    at true rest = (λ m has. once.0 m (Has-filter test notes m has).0, rest)
    at false rest = rest

-- the gain of the notes is the open one
pub gain_is : (t g : ℕ) (v : ℤ) (kind : Kind) → IsEither t v → ((kind ≡ Won) × (pos 0 <ℤ v)) ⊎ ((kind ≡ Lost) × (v <ℤ pos 0)) → gain_by kind g ≡ neg_ℤ v → g ≡ t
gain_is t g v kind either (inl won) is =
    let e : neg_ℤ (pos g) ≡ neg_ℤ v = ap (λ k. gain_by k g) (sym won.0) ∙ is in
    let sign = won.1 in
    elim either [ inl up ↦ omega (arith, ints, e, sign, up) | inr down ↦ omega (arith, ints, e, sign, down) ]
gain_is t g v kind either (inr lost) is =
    let e : pos g ≡ neg_ℤ v = ap (λ k. gain_by k g) (sym lost.0) ∙ is in
    let sign = lost.1 in
    elim either [ inl up ↦ omega (arith, ints, e, sign, up) | inr down ↦ omega (arith, ints, e, sign, down) ]
