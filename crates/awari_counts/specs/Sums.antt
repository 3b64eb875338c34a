-- Sums of cells that lie in a line, and those of a table of values and distances. Private functions alone go by these: no public contract does.
use Rattle.std.specs.Prelude.{◌≡◌, ℕ, ◌+◌, ◌*◌, ◌<◌, ◌≤◌, List, length, slice_index}
use Rattle.awari_rank.specs.Tuples.{total}
use Rattle.awari_table.specs.declared.images.Counts.{Counts}
use Rattle.awari_counts.specs.declared.sums.Lane.{Lane}
use Rattle.awari_counts.specs.declared.sums.Lanes.{Lanes}
use Rattle.awari_counts.specs.declared.sums.Tally.{Tally}

-- the sum of the cells of a lane
abbrev pub lane_sum : List ℕ → Lane → ℕ
lane_sum counts lane = total (λ k. slice_index counts (lane.first + k * lane.step)) lane.cells

-- its cells are there, and their sum has 32 bits
pub record IsLaneOf (counts : List ℕ) (lane : Lane) : Type 0 where
  pub inside : (k : ℕ) → k < lane.cells → lane.first + k * lane.step < length counts
  pub few : lane_sum counts lane ≤ 4294967295

-- the lane at a place
abbrev pub lane_at : Lanes → ℕ → Lane
lane_at lanes place = record { first = place * lanes.apart; step = lanes.step; cells = lanes.cells }

-- so it is with each lane, and none is empty
pub record AreLanesOf (counts : List ℕ) (lanes : Lanes) : Type 0 where
  pub some : 0 < lanes.cells
  pub each : (place : ℕ) → place < lanes.many → IsLaneOf counts (lane_at lanes place)

-- these are the sums of the lanes
pub record AreSumsOf (counts : List ℕ) (lanes : Lanes) (sums : List ℕ) : Type 0 where
  pub long : length sums ≡ lanes.many
  pub each : (place : ℕ) → place < lanes.many → slice_index sums place ≡ lane_sum counts (lane_at lanes place)

-- these are the numbers of boards of values above 0, of 0 and of values below, by those of each value from -128 up
pub record AreSharesOf (values : List ℕ) (counts : Counts) : Type 0 where
  pub won : counts.won ≡ total (λ k. slice_index values (129 + k)) 127
  pub even : counts.even ≡ slice_index values 128
  pub lost : counts.lost ≡ total (slice_index values) 128

-- the rows of a table of all values and of the distances up to a limit, and its columns
abbrev pub value_rows : ℕ → Lanes
value_rows limit = record { many = 256; apart = limit + 1; step = 1; cells = limit + 1 }

abbrev pub distance_columns : ℕ → Lanes
distance_columns limit = record { many = limit + 1; apart = 1; step = limit + 1; cells = 256 }

-- these are the sums of such a table
pub record AreSumsIn (limit : ℕ) (counts : List ℕ) (tally : Tally) : Type 0 where
  pub values : AreSumsOf counts (value_rows limit) tally.values.items
  pub distances : AreSumsOf counts (distance_columns limit) tally.distances.items
  pub shares : AreSharesOf tally.values.items tally.counts
