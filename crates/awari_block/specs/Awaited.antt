-- Which gain the boards of a block await.
use Rattle.std.specs.Prelude.{◌≡◌, ◌≢◌, ℕ, ◌<◌, ◌≤◌, List, length, slice_index_or}
use Rattle.awari_block.specs.Cells.{MayOpen}
use Rattle.awari_block.specs.Blocks.{no_cell}
use Rattle.awari_block.specs.declared.cells.Cell.{Cell}

-- The bytes of these boards of the level of n stones: if the opening of a gain may settle a board, its byte is that gain. A board that
-- awaits none may have any.
pub record TellAwaited (n : ℕ) (cells : List Cell) (awaits : List ℕ) : Type 0 where
  pub boards : length awaits ≡ length cells
  pub only : (k t : ℕ) → k < length cells → MayOpen (slice_index_or cells k no_cell).mark (slice_index_or cells k no_cell).score n t → slice_index_or awaits k 0 ≡ t

-- no board from index `low` up to, not including, index `high` awaits gain t
abbrev pub NoneAwait : ℕ → List ℕ → ℕ → ℕ → Type 0
NoneAwait t awaits low high = (k : ℕ) → k < length awaits → low ≤ k → k < high → slice_index_or awaits k 0 ≢ t
