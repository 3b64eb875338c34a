-- The cells of a block and its fresh boards.
use Rattle.std.specs.Prelude.{◌≡◌, ℕ, ◌+◌, ◌-◌, ◌≤◌, ◌==◌, Bool, not, ◌&&◌, if◌then◌else◌, nat_le, List, All, count_by, slice_index_or, pos, Option, None, Some, min}
use Rattle.awari_block.specs.declared.cells.Cell.{Cell}
use Rattle.awari_block.specs.declared.cells.Mark.TheVariants.{Ended}
use Rattle.awari_block.specs.Cells.{is_settled, Fits, IsEither, Keeps}
use Rattle.awari_block.specs.declared.stakes.Stake.{Stake}

-- the distance and the rank of a fresh board
abbrev pub Due : Type 0
Due = ℕ × ℕ

abbrev pub due_rank : Due → ℕ
due_rank f = f.1

abbrev pub due_dist : Due → ℕ
due_dist f = f.0

abbrev pub no_cell : Cell
no_cell = record { dist = 0; score = pos 0; plans = 0; left = 0; mark = Ended }

-- the cell of the board of this rank
abbrev pub cell_in : ℕ → List Cell → ℕ → Cell
cell_in start cells rank = slice_index_or cells (rank - start) no_cell

abbrev pub is_settled_in : ℕ → List Cell → ℕ → Bool
is_settled_in start cells rank = nat_le start rank && is_settled (cell_in start cells rank).mark

-- how often a rank is among the fresh
abbrev pub times_due : List Due → ℕ → ℕ
times_due fresh rank = count_by (λ f. due_rank f == rank) fresh

-- how many cells are not settled
abbrev pub unsettled : List Cell → ℕ
unsettled cells = count_by (λ c. not (is_settled c.mark)) cells

-- The cell of a fresh board: it has the board's distance, which is not below the open one, and the open gain, either way.
pub record IsDueAs (stake : Stake) (f : Due) (c : Cell) : Type 0 where
  pub near : c.dist ≡ due_dist f
  pub timely : stake.wave ≤ c.dist
  pub valued : IsEither stake.gain c.score

-- Fresh boards are settled boards of the block, each once, with their distances.
pub record IsBlock (stake : Stake) (start : ℕ) (cells : List Cell) (fresh : List Due) : Type 0 where
  pub fit : All (Fits stake) cells
  pub settled : (rank : ℕ) → times_due fresh rank ≤ (if is_settled_in start cells rank then 1 else 0)
  pub due : All (λ f. IsDueAs stake f (cell_in start cells (due_rank f))) fresh

-- the fresh boards gain those that are newly settled
abbrev pub JoinNewlySettled : ℕ → List Cell → List Due → List Cell → List Due → Type 0
JoinNewlySettled start cells fresh cells' fresh' =
    (rank : ℕ) → times_due fresh' rank + (if is_settled_in start cells rank then 1 else 0) ≡ times_due fresh rank + (if is_settled_in start cells' rank then 1 else 0)

-- settled boards keep value and distance
abbrev pub KeepSettled : ℕ → List Cell → List Cell → Type 0
KeepSettled start cells cells' = (rank : ℕ) → start ≤ rank → Keeps (cell_in start cells rank) (cell_in start cells' rank)

-- the nearer of two distances, as far as there are any
abbrev pub nearer_of : Option ℕ → Option ℕ → Option ℕ
nearer_of None other = other
nearer_of (Some a) None = Some a
nearer_of (Some a) (Some b) = Some (min a b)
