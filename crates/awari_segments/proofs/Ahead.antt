-- What is known of boards whose cells are read ahead of their notes.
use Rattle.std.proofs.Common.{◌≡◌, ◌≢◌, ℕ, ◌+◌, ◌-◌, ◌/◌, ◌<◌, ◌≤◌, ◌==◌, Bool, true, false, inl, inr, All, List, drop, length, slice_range, get_or, set, refl, sym, ap, subst, ◌∙◌, arith, eqb-true, get_or-set_same, get_or-set_other}
use Rattle.std.proofs.lemmas.Bool.{cases_eq}
use Rattle.std.proofs.lemmas.Bool.Decides.{nat_tests}
use Rattle.std.proofs.lemmas.List.Elements.{All-drop}
use Rattle.std.proofs.lemmas.List.Folds.{drop_split}
use Rattle.awari_block.specs.Blocks.{no_cell}
use Rattle.awari_block.specs.Boards.{Settles}
use Rattle.awari_block.specs.Cells.{is_settled}
use Rattle.awari_block.specs.Part.{InBlock, Part, stored_at}
use Rattle.awari_segments.specs.Ahead.{IsBoardOf, TellSettled}
use Rattle.awari_block.proofs.ListParts.{All-append_first}

-- a board that was settled is settled still
pub settled_still : (old now : Part) (rank : ℕ) → Settles old now → InBlock old rank → is_settled (stored_at old rank).mark ≡ true → is_settled (stored_at now rank).mark ≡ true
settled_still old now rank settles inside settled =
    subst (λ s. is_settled (get_or now.cells (rank - s) no_cell).mark ≡ true) (sym settles.same.start) (ap is_settled (settles.stays rank inside.0 settled).0 ∙ settled)

-- of the first k codes it is told
pub record TellsBelow (part : Part) (codes : List ℕ) (settled : List Bool) (k : ℕ) : Type 0 where
  pub each : (j : ℕ) → j < k → get_or settled j false ≡ true → is_settled (stored_at part (get_or codes j 0 / 8)).mark ≡ true

pub TellsBelow-none : (part : Part) (codes : List ℕ) (settled : List Bool) → TellsBelow part codes settled 0
TellsBelow-none part codes settled = record { each = λ j less. absurd (omega (arith, less)) }

pub TellsBelow-more : (part : Part) (codes : List ℕ) (settled : List Bool) (k : ℕ) (b : Bool) → k < length settled → TellsBelow part codes settled k
    → (b ≡ true → is_settled (stored_at part (get_or codes k 0 / 8)).mark ≡ true) → TellsBelow part codes (set settled k b) (k + 1)
TellsBelow-more part codes settled k b inside below is = record { each = λ j less told. at j less told (j == k) refl }
  where
    differ : (x y : ℕ) → (x == y) ≡ false → x ≢ y
    differ x y e = grind (arith, nat_tests)

    here : get_or (set settled k b) k false ≡ b
    here = rw get_or-set_same refl

    there : (j : ℕ) → j ≢ k → get_or (set settled k b) j false ≡ get_or settled j false
    there j ne = rw get_or-set_other refl

    at : (j : ℕ) → j < k + 1 → get_or (set settled k b) j false ≡ true → (t : Bool) → (j == k) ≡ t → is_settled (stored_at part (get_or codes j 0 / 8)).mark ≡ true
    at j less told true e =
        let same = eqb-true j k e in
        subst (λ n. is_settled (stored_at part (get_or codes n 0 / 8)).mark ≡ true) (sym same) (is (sym here ∙ subst (λ n. get_or (set settled k b) n false ≡ true) same told))
    at j less told false e = let ne = differ j k e in below.each j (omega (arith, less, ne)) (sym (there j ne) ∙ told)

pub TellsBelow-end : (part : Part) (codes : List ℕ) (settled : List Bool) (k : ℕ) → length codes ≤ k → TellsBelow part codes settled k → TellSettled part codes settled
TellsBelow-end part codes settled k all below = λ j less told. below.each j (omega (arith, all, less)) told

-- ---- boards are looked up ahead

-- those of the first ranks stand there
abbrev pub BoardsBelow : ℕ → List ℕ → List (List ℕ) → ℕ → Type 0
BoardsBelow level ranks boards n = (k : ℕ) (d : List ℕ) → k < n → IsBoardOf level (get_or ranks k 0) (get_or boards k d)

pub BoardsBelow-more : (level : ℕ) (ranks : List ℕ) (boards : List (List ℕ)) (n : ℕ) (board : List ℕ) → n < length boards → IsBoardOf level (get_or ranks n 0) board → BoardsBelow level ranks boards n
    → BoardsBelow level ranks (set boards n board) (n + 1)
BoardsBelow-more level ranks boards n board inside is before = λ k d below. elim (cases_eq k n) [
  | inl same ↦
      subst (λ j. IsBoardOf level (get_or ranks j 0) (get_or (set boards n board) j d)) (sym same) (subst (IsBoardOf level (get_or ranks n 0)) (sym (get_or-set_same boards n board d inside)) is)
  | inr other ↦ subst (IsBoardOf level (get_or ranks k 0)) (sym (get_or-set_other boards n k board d other)) (before k d (omega (arith, below, other)))
]

-- the ranks of a batch are of the level
pub batch_ranks : (size : ℕ) (ranks : List ℕ) (start end : ℕ) → All (λ rank. rank < size) ranks → start ≤ end → All (λ rank. rank < size) (slice_range ranks start end)
batch_ranks size ranks start end all order =
    All-append_first (λ rank. rank < size) (slice_range ranks start end) (drop end ranks) (subst (All (λ rank. rank < size)) (drop_split ranks start end order) (All-drop (λ rank. rank < size) start ranks all))
