-- The image of a level whose gains are all closed.
use Rattle.std.specs.Prelude.{◌≡◌, List, length}
use Rattle.awari_rank.specs.Rank.{size_of}
use Rattle.awari_table.specs.declared.images.Image.{Image}
use Rattle.awari_table.specs.Images.{greatest_dist}
use Rattle.awari_block.specs.Part.{Part}
use Rattle.awari_play.specs.Least.{IsPlannedLowest}
use Rattle.awari_heard.specs.Kept.{HasSettled, HaveAll}

-- The image of the level above the shelf: the settled values and distances, the lowest plans that these make, and the greatest
-- distance. It is so whatever notes the parts heard.
pub record IsFinished (shelf : List Image) (parts : List Part) (image : Image) : Type 0 where
  pub level : image.level ≡ length shelf
  pub sized : length image.entries ≡ size_of (length shelf)
  pub settled : HaveAll HasSettled parts image.entries
  pub planned : IsPlannedLowest shelf image
  pub limited : image.limit ≡ greatest_dist image.entries
