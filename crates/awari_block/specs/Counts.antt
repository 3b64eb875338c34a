-- How many boards were spread.
use Rattle.std.specs.Prelude.{ℕ, ◌-◌, List, length, sum_by}
use Rattle.awari_block.specs.Part.{Part, unspread}

-- the boards of the block that are settled and not fresh
abbrev pub spread_of : Part → ℕ
spread_of part = length part.cells - unspread part

-- and those of all these blocks
abbrev pub spread_in : List Part → ℕ
spread_in parts = sum_by spread_of parts
