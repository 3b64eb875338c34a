-- The text of a table: how the images of the levels are spelled.
use Rattle.std.specs.Prelude.{◌≡◌, ℕ, ◌+◌, pos, ◌<◌, ◌≤◌, ◌^◌, ◌≤ℤ◌, negsuc, List, [], ◌∷◌, ◌++◌, length, Option, Some, None, FitsSigned, codes}
use Rattle.std.specs.Int.{w8}
use Rattle.std.specs.List.{flat_map, AllByRecursion}
use Rattle.std.specs.Fmt.{decimal, signed_decimal}
use Rattle.awari_rank.specs.Rank.{size_of}
use Rattle.awari_table.specs.declared.TheConstants.{HIGHEST_LEVEL}
use Rattle.awari_table.specs.declared.images.Entry.{Entry}
use Rattle.awari_table.specs.declared.images.Image.{Image}
use Rattle.awari_table.specs.Images.{HasOwnPlan}

-- a plan is a pit's number, or a dash for none
abbrev pub plan_text : Option ℕ → List ℕ
plan_text None = codes "-"
plan_text (Some pit) = decimal pit

-- the value, the plan and the distance, parted by spaces (32), and a line feed (10)
abbrev pub entry_line : Entry → List ℕ
entry_line e = signed_decimal e.value ++ 32 ∷ [] ++ plan_text e.plan ++ 32 ∷ [] ++ decimal e.dist ++ 10 ∷ []

abbrev pub header_line : ℕ → ℕ → List ℕ
header_line level limit = codes "level " ++ decimal level ++ codes " limit " ++ decimal limit ++ 10 ∷ []

-- a header, and a line for each entry
abbrev pub block : Image → List ℕ
block image = header_line image.level image.limit ++ flat_map entry_line image.entries

abbrev pub table_text : List Image → List ℕ
table_text images = flat_map block images

-- how many lines that text has
abbrev pub line_count : List Image → ℕ
line_count [] = 0
line_count (image ∷ images) = 1 + length image.entries + line_count images

-- an entry whose numbers fit their bytes
pub record IsEntry (e : Entry) : Type 0 where
  pub low : negsuc 127 ≤ℤ e.value
  pub high : e.value ≤ℤ pos 127
  pub plan : HasOwnPlan e
  pub dist : e.dist < 2 ^ 32

-- the value and the distance fit their bytes
pub record FitsNumbers (e : Entry) : Type 0 where
  pub value : FitsSigned w8 e.value
  pub dist : e.dist < 2 ^ 32

-- an image of this level, with an entry for each board
pub record IsImage (level : ℕ) (image : Image) : Type 0 where
  pub number : image.level ≡ level
  pub low : level ≤ HIGHEST_LEVEL
  pub limit : image.limit < 2 ^ 32
  pub sized : length image.entries ≡ size_of level
  pub entries : AllByRecursion IsEntry image.entries

-- images of this level and of those after it, in order
abbrev pub AreImages : ℕ → List Image → Type 0
AreImages level [] = Unit {0}
AreImages level (image ∷ images) = IsImage level image × AreImages (level + 1) images
