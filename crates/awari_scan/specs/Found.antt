-- The boards that are told of one that is spread, as they are found. Private functions alone go by this: no public contract does.
use Rattle.std.specs.Prelude.{◌≡◌, ℕ, ◌≤◌, List, length, map, sum, take, ◌+◌, ◌*◌, ◌^◌, ◌<◌, ◌/◌, ◌%◌}
use Rattle.awari_board.specs.Rules.{IsBoard}
use Rattle.awari_rank.specs.Rank.{rank_of}
use Rattle.awari_unmove.specs.Predecessors.{IsPredecessors}
use Rattle.awari_block.specs.Notes.{IsQuietMove}

-- a board, and a pit of it whose quiet move leads to the board that is spread
abbrev pub Source : Type 0
Source = List ℕ × ℕ

-- boards of the level, with pits whose moves are quiet
abbrev pub IsSource : ℕ → Source → Type 0
IsSource level y = IsBoard y.0 × (sum y.0 ≡ level) × ((q : List ℕ) × IsQuietMove y.0 y.1 q)

-- a board and its pit in four bytes
abbrev pub code_by : ℕ → ℕ → ℕ
code_by rank pit = rank * 8 + pit

abbrev pub code_of : Source → ℕ
code_of y = code_by (rank_of y.0) y.1

-- the code is of this board and pit
abbrev pub IsCodeOf : Source → ℕ → Type 0
IsCodeOf y code = (rank_of y.0 ≡ code / 8) × (y.1 ≡ code % 8)

-- it fits
abbrev pub IsCodable : Source → Type 0
IsCodable y = (rank_of y.0 < 2 ^ 29) × (y.1 < 6)

-- the first n targets are the codes of these sources, in their order
pub record Lists (targets : List ℕ) (n : ℕ) (sources : List Source) : Type 0 where
  pub many : length sources ≡ n
  pub room : n ≤ length targets
  pub are : take n targets ≡ map code_of sources

-- the first n targets are the predecessors of this board
abbrev pub ListsAll : List ℕ → List ℕ → ℕ → Type 0
ListsAll board targets n = (sources : List Source) × IsPredecessors board sources × Lists targets n sources
