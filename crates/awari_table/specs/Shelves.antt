-- Which level may stand above which.
use Rattle.std.specs.Prelude.{◌≡◌, ℕ, ◌+◌, ◌<◌, ◌≤◌, List, [], ◌∷◌, ◌++◌, length, sum, take, slice_index_or}
use Rattle.awari_board.specs.Rules.{IsBoard}
use Rattle.awari_rank.specs.Rank.{size_of}
use Rattle.awari_table.specs.declared.TheConstants.{HIGHEST_LEVEL}
use Rattle.awari_table.specs.declared.images.Image.{Image}
use Rattle.awari_table.specs.Certificate.{Table, DistancesAreLeast, IsRightBy}
use Rattle.awari_table.specs.Images.{table_of, greatest_dist, no_image}

-- The image is of the level above the shelf, with an entry for each board; each of its boards is right by the table that has
-- the image on top; and, which is rule V7, its limit is the greatest of its distances.
pub record ConsistentBy (Asked : Table → List ℕ → Type 0) (shelf : List Image) (image : Image) : Type 0 where
  pub next : image.level ≡ length shelf
  pub low : image.level ≤ HIGHEST_LEVEL
  pub sized : length image.entries ≡ size_of image.level
  pub right : (p : List ℕ) → IsBoard p → sum p ≡ image.level → IsRightBy Asked (table_of (shelf ++ image ∷ [])) p
  pub limited : image.limit ≡ greatest_dist image.entries

-- by the rules in force
abbrev pub Consistent : List Image → Image → Type 0
Consistent shelf image = ConsistentBy DistancesAreLeast shelf image

-- each level is consistent over those below it
pub record IsShelf (levels : List Image) : Type 0 where
  pub few : length levels ≤ HIGHEST_LEVEL + 1
  pub consistent : (i : ℕ) → i < length levels → Consistent (take i levels) (slice_index_or levels i no_image)
