-- The numbers that a column may have, each by its place among them.
use Rattle.std.specs.Prelude.{ℕ, ◌+◌, ℤ, pos, ◌-ℤ◌}
use Rattle.awari_queries.specs.declared.columns.Column.{Column}
use Rattle.awari_queries.specs.declared.columns.Column.TheVariants.{Rank, Value, Distance, Plan, Captures, Greedy, Moves, Keep, Trap, Other, Waits}

-- how far below 0 the least number is: -1 stands for no plan, or for no capture
abbrev pub below_of : Column → ℕ
below_of Rank = 0
below_of Value = 128
below_of Distance = 0
below_of Plan = 1
below_of Captures = 1
below_of Greedy = 1
below_of Moves = 0
below_of Keep = 0
below_of Trap = 280
below_of Other = 128
below_of Waits = 0

-- How many numbers there are, where no distance is above a limit: values from -128 to 127, pits of the plan up to 5, captures up to
-- 24, up to 6 moves, traps from -280 to 254, and up to 256 stones lost by having to move. Files that nobody verified may say any of
-- these. Boards are not counted by rank.
abbrev pub width_of : ℕ → Column → ℕ
width_of limit Rank = 0
width_of limit Value = 256
width_of limit Distance = limit + 1
width_of limit Plan = 7
width_of limit Captures = 26
width_of limit Greedy = 26
width_of limit Moves = 7
width_of limit Keep = 7
width_of limit Trap = 535
width_of limit Other = 256
width_of limit Waits = 257

-- the number at a place
abbrev pub number_at : Column → ℕ → ℤ
number_at column place = pos place -ℤ pos (below_of column)
