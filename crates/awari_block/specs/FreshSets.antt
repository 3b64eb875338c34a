-- How the fresh boards of a block are kept.
use Rattle.std.specs.Prelude.{◌≡◌, ◌≢◌, ℕ, ◌-◌, ◌<◌, ◌≤◌, List, length, All, pos, slice_set}
use Rattle.awari_block.specs.Blocks.{Due, cell_in, due_rank, IsBlock}
use Rattle.awari_block.specs.Boards.{GivesFresh}
use Rattle.awari_block.specs.Part.{part_of}
use Rattle.awari_block.specs.declared.cells.Cell.{Cell}
use Rattle.awari_block.specs.declared.notes.Kind.{Kind}
use Rattle.awari_block.specs.declared.stakes.Stake.{Stake}

-- other cells say the same scores of these boards
pub record KeepFresh (start : ℕ) (cells after : List Cell) (fresh : List Due) : Type 0 where
  pub size : length after ≡ length cells
  pub same : All (λ f. (cell_in start after (due_rank f)).score ≡ (cell_in start cells (due_rank f)).score) fresh

-- A block of these cells may get this one for that of a board that is not among the fresh ones, and settle it.
pub record CanJoin {F : Type 0} (dues : F → List Due) (is_right : ℕ → List Cell → F → Type 0) (start : ℕ) (cells : List Cell) (fresh : F) (rank : ℕ) (cell : Cell) : Type 0 where
  pub low : start ≤ rank
  pub inside : rank - start < length cells
  pub right : is_right start cells fresh
  pub room : length (dues fresh) < length cells
  pub others : KeepFresh start cells (slice_set cells (rank - start) cell) (dues fresh)
  pub valued : cell.score ≢ pos 0

-- boards of a wave and a kind are given away
abbrev pub GivesAway : {F : Type 0} → (F → List Due) → (ℕ → List Cell → F → Type 0) → Kind → ℕ → F → F → List ℕ → Type 0
GivesAway dues is_right kind wave old new given =
    (stake : Stake) (start : ℕ) (cells : List Cell) → stake.wave ≡ wave → IsBlock stake start cells (dues old) → is_right start cells old
    → GivesFresh kind (part_of stake start cells (dues old)) (part_of stake start cells (dues new)) given × is_right start cells new
