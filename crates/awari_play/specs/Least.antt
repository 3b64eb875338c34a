-- Images of least distances and lowest plans.
use Rattle.std.specs.Prelude.{◌≡◌, ℕ, ◌<◌, ◌≤◌, List, [], ◌∷◌, ◌++◌, length, sum, slice_index_or}
use Rattle.awari_board.specs.Rules.{IsBoard}
use Rattle.awari_table.specs.declared.images.Entry.{Entry}
use Rattle.awari_table.specs.declared.images.Image.{Image}
use Rattle.awari_table.specs.Images.{table_of, no_entry}
use Rattle.awari_play.specs.Plan.{IsLowest}

-- the values are the same, and no distance is greater
pub record NoFarther (old new : List Entry) : Type 0 where
  pub size : length new ≡ length old
  pub value : (k : ℕ) → (slice_index_or new k no_entry).value ≡ (slice_index_or old k no_entry).value
  pub dist : (k : ℕ) → (slice_index_or new k no_entry).dist ≤ (slice_index_or old k no_entry).dist

-- the plan of each board of the levels is the lowest pit that serves
abbrev pub HasLowestPlans : List Image → Type 0
HasLowestPlans levels = (p : List ℕ) → IsBoard p → sum p < length levels → IsLowest (table_of levels) p ((table_of levels).plan p)

-- and that of each board of the level on top
abbrev pub IsPlannedLowest : List Image → Image → Type 0
IsPlannedLowest shelf image =
    (p : List ℕ) → IsBoard p → sum p ≡ length shelf → IsLowest (table_of (shelf ++ image ∷ [])) p ((table_of (shelf ++ image ∷ [])).plan p)
