-- The command `counts --by`: how many boards of a level have each pair of numbers of two columns, and what is printed of that.
use Rattle.std.specs.Prelude.{◌≡◌, ℕ, Bool, true, false, ◌&&◌, List, ◌++◌, ◌∷◌, [], count_by, codes, ℤ, Option, Some}
use Rattle.std.specs.Borrow.{Bor}
use Rattle.std.specs.Io.KnownBytes.{Appends}
use Rattle.std.specs.List.{flat_map, range_with_len}
use Rattle.std.specs.Ordering.{int_eq}
use Rattle.awari_folder.specs.Contents.{Stands}
use Rattle.awari_facts.specs.Loads.{HasLevel}
use Rattle.awari_facts.specs.Numbers.{column_member, number_in}
use Rattle.awari_facts.specs.Sources.{IsSaidOf, limit_of}
use Rattle.awari_members.specs.Forms.{form_of}
use Rattle.awari_queries.specs.Columns.{AsksForPair, name_of}
use Rattle.awari_members.specs.declared.forms.Form.{Form}
use Rattle.awari_members.specs.declared.forms.Form.TheVariants.{Text, Csv, Json}
use Rattle.awari_queries.specs.declared.columns.Column.{Column}
use Rattle.awari_queries.specs.declared.columns.Pair.{Pair}
use Rattle.awari_queries.specs.declared.questions.CountsQuery.{CountsQuery}
use Rattle.awari_rank.specs.Tuples.{tuples}
use Rattle.awari_table.specs.declared.images.Image.{Image}
use Rattle.awari_counts.specs.Ranges.{number_at, width_of}
use Rattle.awari_counts.specs.Rows.{row_lines}

-- the board has these numbers of two columns
abbrev pub has_pair : List Image → Column → Column → ℤ → ℤ → List ℕ → Bool
has_pair images first second i j board = int_eq (number_in images first board) i && int_eq (number_in images second board) j

-- how many boards of a level have them: `tuples 12 level` are the boards with this many stones
abbrev pub boards_with : List Image → Column → Column → ℤ → ℤ → ℕ → ℕ
boards_with images first second i j level = count_by (has_pair images first second i j) (tuples 12 level)

-- the names of two columns, and of the number of boards
abbrev pub names_text : Pair → List ℕ
names_text pair = name_of pair.first ++ 44 ∷ (name_of pair.second ++ codes ",boards")

-- what stands above the lines: of CSV their names
unfoldable pub header_of : Form → Pair → List ℕ
header_of Text pair = []
header_of Csv pair = names_text pair ++ 10 ∷ []
header_of Json pair = []

-- the lines of one number of the first column, by the second, where no distance is above the limit
abbrev pub pair_row : Form → Pair → List Image → ℕ → ℕ → ℕ → List ℕ
pair_row form pair images level limit i =
    row_lines form (column_member pair.first (number_at pair.first i) ∷ []) pair.second (λ j. boards_with images pair.first pair.second (number_at pair.first i) (number_at pair.second j) level) (width_of limit pair.second)

-- a line for each pair of numbers that a board has, by the first and then by the second
unfoldable pub pair_lines : Form → Pair → List Image → ℕ → ℕ → List ℕ
pair_lines form pair images level limit = header_of form pair ++ flat_map (pair_row form pair images level limit) (range_with_len 0 (width_of limit pair.first))

-- What was written are these lines of a level, up to its limit, of the two columns and in the form that are asked for.
pub record AppendsPairs (query : CountsQuery) (level : ℕ) (images : List Image) (before after : Option (List ℕ)) : Type 0 where
  pub by : Bor (List ℕ)
  pub named : query.by ≡ Some by
  pub pair : Pair
  pub asked : AsksForPair by.now pair
  pub lines : Appends before after (pair_lines (form_of query.json query.csv) pair images level (limit_of images level))

-- Where it is known what the writer holds, that was written of the level that is asked for, by right levels: those up to it that
-- the folder stores, where it is known what its names have.
pub record PrintsPairs (stands : Stands) (query : CountsQuery) (before after : Option (List ℕ)) : Type 0 where
  pub level : ℕ
  pub asked : query.level ≡ Some level
  pub images : List Image
  pub stored : HasLevel level stands images
  pub printed : AppendsPairs query level images before after

-- The same of what the files say, whether that is right or not; where it is known what the folder's names have.
pub record PrintsPairsSaid (stands : Stands) (query : CountsQuery) (before after : Option (List ℕ)) : Type 0 where
  pub level : ℕ
  pub asked : query.level ≡ Some level
  pub printed : IsSaidOf level stands (λ images. AppendsPairs query level images before after)

-- The one or the other.
abbrev pub PrintsPairsBy : Bool → Stands → CountsQuery → Option (List ℕ) → Option (List ℕ) → Type 0
PrintsPairsBy false = PrintsPairs
PrintsPairsBy true = PrintsPairsSaid
