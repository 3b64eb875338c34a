-- The parts of a level once they are settled, and its image. Private functions alone go by this.
use Rattle.std.specs.Prelude.{List, All, length}
use Rattle.awari_block.specs.Part.{Part, IsClosed}
use Rattle.awari_heard.specs.Kept.{IsKept}
use Rattle.awari_heard.specs.Level.{AreHeard, AreWhole}
use Rattle.awari_table.specs.Images.{table_of}
use Rattle.awari_table.specs.declared.images.Image.{Image}

-- The parts are all blocks of the shelf's next level, each is closed, and they heard of all spread boards.
pub record AreSettled (shelf : List Image) (parts : List Part) : Type 0 where
  pub whole : AreWhole (length shelf) parts
  pub closed : All IsClosed parts
  pub heard : AreHeard (table_of shelf).value parts

-- the image has what such parts kept
abbrev pub IsSettled : List Image → Image → Type 0
IsSettled shelf image = (parts : List Part) × AreSettled shelf parts × IsKept shelf parts image
