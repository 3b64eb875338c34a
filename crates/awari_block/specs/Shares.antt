-- How the boards of a level are shared out in blocks.
use Rattle.std.specs.Prelude.{ℕ, ◌+◌, ◌-◌, ◌*◌, ◌/◌, ◌≤◌, min}
use Rattle.awari_rank.specs.Rank.{size_of}
use Rattle.awari_block.specs.declared.blocks.Block.{Block}

-- Of this many boards each owner has as many, the last ones fewer or none where they don't divide. This is the rank of an
-- owner's first board, or the number of boards where there is none.
abbrev pub first_rank : ℕ → ℕ → ℕ → ℕ
first_rank boards owners owner = min (owner * ((boards + (owners - 1)) / owners)) boards

-- a block of the boards of n stones
pub record IsBlockOf (n : ℕ) (block : Block) : Type 0 where
  pub order : block.start ≤ block.end
  pub within : block.end ≤ size_of n
