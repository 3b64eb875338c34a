-- What was looked at of an image, by one thread or by several.
use Rattle.std.specs.Prelude.{Bool, false, slice_index_or, ℕ, List, [], ◌∷◌, ◌++◌}
use Rattle.awari_table.specs.Images.{table_of}
use Rattle.awari_table.specs.declared.images.Image.{Image}
use Rattle.awari_verify.specs.Pieces.{IsShare}
use Rattle.awari_verify.specs.VerifyFault.{IsShaped}
use Rattle.awari_verify.specs.declared.shares.Share.{Share}

-- whether the piece of this number was looked at
abbrev pub has_seen : Share → ℕ → Bool
has_seen share piece = slice_index_or share.seen piece false

-- If the image has the shape of the shelf's next level, then those pieces of it were looked at that the share names, by the table of the
-- shelf with the image on top, and this is the nearest breach in them.
abbrev pub IsShareOf : List Image → Image → Share → Type 0
IsShareOf shelf image share = IsShaped shelf image → IsShare (table_of (shelf ++ image ∷ [])) image.level share
