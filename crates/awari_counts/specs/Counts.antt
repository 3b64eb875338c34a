-- The command `counts`: how many boards of a level have each value and each distance, and what is printed of that.
use Rattle.std.specs.Prelude.{◌≡◌, ℕ, ◌+◌, ◌==◌, Bool, true, false, List, length, ◌++◌, ◌∷◌, [], count_by, slice_get, codes, ℤ, Option, Some, None, IsSomeAnd}
use Rattle.std.specs.Io.KnownBytes.{Appends}
use Rattle.std.specs.List.{flat_map}
use Rattle.std.specs.Ordering.{int_eq}
use Rattle.awari_folder.specs.Contents.{Stands}
use Rattle.awari_answers.specs.Asked.{AreLevelsTo}
use Rattle.awari_answers.specs.LevelLines.{level_members}
use Rattle.awari_answers.specs.declared.telling.LevelLine.{LevelLine}
use Rattle.awari_members.specs.Members.{line_text}
use Rattle.awari_members.specs.declared.forms.Form.{Form}
use Rattle.awari_members.specs.declared.forms.Form.TheVariants.{Text, Csv, Json}
use Rattle.awari_table.specs.Images.{even_boards, lost_boards, won_boards}
use Rattle.awari_table.specs.declared.TheConstants.{HIGHEST_LEVEL}
use Rattle.awari_table.specs.declared.images.Entry.{Entry}
use Rattle.awari_table.specs.declared.images.Image.{Image}
use Rattle.awari_facts.specs.Loads.{HasLevel}
use Rattle.awari_facts.specs.Sources.{AreSaid, IsSaidOf}
use Rattle.awari_counts.specs.Ranges.{number_at}
use Rattle.awari_counts.specs.Rows.{head_of, row_lines}
use Rattle.awari_queries.specs.declared.columns.Column.TheVariants.{Value, Distance}

-- how many boards have this value, and how many this distance
abbrev pub boards_of_value : List Entry → ℤ → ℕ
boards_of_value entries value = count_by (λ e. int_eq e.value value) entries

abbrev pub boards_of_distance : List Entry → ℕ → ℕ
boards_of_distance entries distance = count_by (λ e. e.dist == distance) entries

-- what is told of a level
abbrev pub shown_told : Form → LevelLine → List ℕ
shown_told form told = line_text form (level_members told)

abbrev pub told_of : Image → LevelLine
told_of image = record {
  level = image.level;
  boards = length image.entries;
  counts = record { won = won_boards image.entries; even = even_boards image.entries; lost = lost_boards image.entries };
  limit = image.limit;
}

unfoldable pub shown_level : Form → Image → List ℕ
shown_level form image = shown_told form (told_of image)

-- what stands above the lines of levels: in CSV their names
unfoldable pub names_of_levels : Form → List ℕ
names_of_levels Text = []
names_of_levels Csv = codes "level,boards,won,even,lost,limit" ++ 10 ∷ []
names_of_levels Json = []

abbrev pub lines_of_levels : Form → List Image → List ℕ
lines_of_levels form images = flat_map (λ image. shown_level form image ++ 10 ∷ []) images

abbrev pub shown_levels : Form → List Image → List ℕ
shown_levels form images = names_of_levels form ++ lines_of_levels form images

-- what stands above the lines of values and distances: what is told of the level; in CSV their names
unfoldable pub top_of : Form → LevelLine → List ℕ
top_of Text told = shown_told Text told ++ 10 ∷ []
top_of Csv told = codes "column,number,boards" ++ 10 ∷ []
top_of Json told = shown_told Json told ++ 10 ∷ []

-- a line for each value that a board has, ascending
unfoldable pub value_lines : Form → List Entry → List ℕ
value_lines form entries = row_lines form (head_of form Value) Value (λ place. boards_of_value entries (number_at Value place)) 256

-- a line for each distance that a board has, ascending, up to a limit
unfoldable pub distance_lines : Form → ℕ → List Entry → List ℕ
distance_lines form limit entries = row_lines form (head_of form Distance) Distance (boards_of_distance entries) (limit + 1)

-- the lines of a level's values and distances below what stands above them
unfoldable pub count_lines : Form → Image → List ℕ
count_lines form image = top_of form (told_of image) ++ (value_lines form image.entries ++ distance_lines form image.limit image.entries)

-- Where it is known what the writer holds, what was written is a line for each of the right levels that the folder stores, or all
-- lines of the one of this number; where it is known what the folder's names have. Each line is of this form.
abbrev pub PrintsCounts : Form → Stands → Option ℕ → Option (List ℕ) → Option (List ℕ) → Type 0
PrintsCounts form stands None before after = (images : List Image) × AreLevelsTo HIGHEST_LEVEL stands images × Appends before after (shown_levels form images)
PrintsCounts form stands (Some number) before after = (images : List Image) × (image : Image) × HasLevel number stands images × (slice_get images number ≡ Some image)
    × Appends before after (count_lines form image)

-- What was written are the lines of these levels, or all lines of the one of this number.
abbrev pub AppendsCounts : Form → Option ℕ → List Image → Option (List ℕ) → Option (List ℕ) → Type 0
AppendsCounts form None images before after = Appends before after (shown_levels form images)
AppendsCounts form (Some number) images before after = IsSomeAnd (slice_get images number) (λ image. Appends before after (count_lines form image))

-- The same of what the files say, whether that is right or not; where it is known what the folder's names have.
abbrev pub PrintsCountsSaid : Form → Stands → Option ℕ → Option (List ℕ) → Option (List ℕ) → Type 0
PrintsCountsSaid form stands None before after = AreSaid HIGHEST_LEVEL stands (λ images. AppendsCounts form None images before after)
PrintsCountsSaid form stands (Some number) before after = IsSaidOf number stands (λ images. AppendsCounts form (Some number) images before after)

-- The one or the other.
abbrev pub PrintsCountsBy : Bool → Form → Stands → Option ℕ → Option (List ℕ) → Option (List ℕ) → Type 0
PrintsCountsBy false = PrintsCounts
PrintsCountsBy true = PrintsCountsSaid
