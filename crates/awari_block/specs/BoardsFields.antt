-- The fields of the boards of a block.
use Rattle.std.specs.Prelude.{◌≡◌, ℕ, ◌+◌, ◌^◌, ◌<◌, ◌≤◌, List, length, vec_len}
use Rattle.awari_rank.specs.Rank.{size_of}
use Rattle.awari_block.specs.Awaited.{TellAwaited}
use Rattle.awari_block.specs.Blocks.{Due, IsBlock}
use Rattle.awari_block.specs.Part.{part_of, unspread}
use Rattle.awari_block.specs.declared.boards.Boards.TheInside.{Inside}
use Rattle.awari_block.specs.declared.cells.Cell.{Cell}

pub record IsBoards {F : Type 0} (dues : F → List Due) (is_right : ℕ → List Cell → F → Type 0) (a : Inside F) : Type 0 where
  pub low : a.stake.level ≤ 24
  pub opened : 1 ≤ a.stake.gain
  pub inward : a.stake.gain ≤ a.stake.level + 1
  pub fits : a.start + vec_len a.cells < 2 ^ 32
  pub within : a.start + vec_len a.cells ≤ size_of a.stake.level
  pub right : is_right a.start a.cells.items a.fresh
  pub block : IsBlock a.stake a.start a.cells.items (dues a.fresh)
  pub awaited : TellAwaited a.stake.level a.cells.items a.awaits.items
  pub count : a.spread + unspread (part_of a.stake a.start a.cells.items (dues a.fresh)) ≡ length a.cells.items
