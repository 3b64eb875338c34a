-- Fresh boards in lists by distance.
use Rattle.std.specs.Prelude.{ℕ, ℤ, pos, ◌<ℤ◌, ◌++◌, All, List}
use Rattle.awari_block.specs.Blocks.{Due, cell_in, due_rank}
use Rattle.awari_segments.specs.Lists.{dues_of}
use Rattle.awari_segments.specs.declared.by_distance.ByDistance.{ByDistance}
use Rattle.awari_block.specs.declared.cells.Cell.{Cell}

-- these boards have scores of which this holds
abbrev pub AreOfScore : (ℤ → Type 0) → ℕ → List Cell → List Due → Type 0
AreOfScore P start cells fresh = All (λ f. P (cell_in start cells (due_rank f)).score) fresh

abbrev pub IsBelowZero : ℤ → Type 0
IsBelowZero v = v <ℤ pos 0

abbrev pub IsAboveZero : ℤ → Type 0
IsAboveZero v = pos 0 <ℤ v

-- all boards of the lists
abbrev pub listed_of : ByDistance → List Due
listed_of fresh = dues_of fresh.lost ++ dues_of fresh.won

-- the lists have their boards by sign
pub record AreSigned (start : ℕ) (cells : List Cell) (fresh : ByDistance) : Type 0 where
  pub lost : AreOfScore IsBelowZero start cells (dues_of fresh.lost)
  pub won : AreOfScore IsAboveZero start cells (dues_of fresh.won)
