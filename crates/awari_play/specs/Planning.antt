-- The plans of a level that stands on top of a shelf, set board by board, by the values and distances of its entries.
use Rattle.std.specs.Prelude.{◌≡◌, ℕ, ◌<◌, ◌≤◌, List, [], ◌∷◌, ◌++◌, length, sum, slice_index_or, ◌⊎◌, pos, ◌<ℤ◌}
use Rattle.awari_board.specs.Rules.{IsBoard}
use Rattle.awari_rank.specs.Rank.{rank_of, size_of}
use Rattle.awari_table.specs.declared.images.Entry.{Entry}
use Rattle.awari_table.specs.declared.images.Image.{Image}
use Rattle.awari_table.specs.Images.{table_of, greatest_dist, no_entry}
use Rattle.awari_table.specs.Reached.{gain_of}
use Rattle.awari_table.specs.declared.rules.Reached.{Reached}
use Rattle.awari_play.specs.Plan.{IsLowest}

-- the levels of the shelf, and on top of them one with these entries
abbrev pub with_top : List Image → List Entry → List Image
with_top shelf entries = shelf ++ record { level = length shelf; limit = 0; entries = entries } ∷ []

-- there is such a level, and these are as many entries as it has
pub record HasEntries (shelf : List Image) (entries : List Entry) : Type 0 where
  pub low : length shelf ≤ 24
  pub sized : length entries ≡ size_of (length shelf)

-- A move gains the value of the board's own entry; and where that is positive, it captures or leads to a smaller distance.
abbrev pub Gains : Entry → Reached → Type 0
Gains own m = (gain_of m ≡ own.value) × (pos 0 <ℤ own.value → (0 < m.captured) ⊎ (m.plies ≤ own.dist))

-- as many entries, and of each rank the same value and distance; plans may differ
pub record SameSettled (old new : List Entry) : Type 0 where
  pub size : length new ≡ length old
  pub value : (k : ℕ) → (slice_index_or new k no_entry).value ≡ (slice_index_or old k no_entry).value
  pub dist : (k : ℕ) → (slice_index_or new k no_entry).dist ≡ (slice_index_or old k no_entry).dist

-- The new entries of the ranks below `high` have the plans of their boards: the lowest that the values and distances of the old
-- entries make.
abbrev pub ArePlannedBelow : List Image → List Entry → List Entry → ℕ → Type 0
ArePlannedBelow shelf old new high =
    (p : List ℕ) → IsBoard p → sum p ≡ length shelf → rank_of p < high → IsLowest (table_of (with_top shelf old)) p (slice_index_or new (rank_of p) no_entry).plan

-- The image is made of these entries of the level above the shelf: their values and distances, the plans that these make, and the
-- greatest distance.
pub record IsPlannedImage (shelf : List Image) (entries : List Entry) (image : Image) : Type 0 where
  pub level : image.level ≡ length shelf
  pub same : SameSettled entries image.entries
  pub planned : ArePlannedBelow shelf entries image.entries (size_of (length shelf))
  pub limited : image.limit ≡ greatest_dist image.entries
