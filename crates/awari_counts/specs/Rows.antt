-- Rows of numbers of boards: a line for each number of a column that some boards have.
use Rattle.std.specs.Prelude.{ℕ, List, ◌++◌, ◌∷◌, [], codes}
use Rattle.std.specs.List.{flat_map, range_with_len}
use Rattle.awari_members.specs.Members.{Named, line_text, number, share_line, text}
use Rattle.awari_members.specs.declared.forms.Form.{Form}
use Rattle.awari_members.specs.declared.forms.Form.TheVariants.{Text, Csv, Json}
use Rattle.awari_queries.specs.Columns.{name_of}
use Rattle.awari_queries.specs.declared.columns.Column.{Column}
use Rattle.awari_facts.specs.Numbers.{column_member}
use Rattle.awari_counts.specs.Ranges.{number_at}

-- what stands before the numbers of one column: in CSV its name
abbrev pub head_of : Form → Column → List Named
head_of Text column = []
head_of Csv column = text (codes "column") (name_of column) ∷ []
head_of Json column = []

-- a number, and how many boards have it, behind what stands before them
abbrev pub share_text : Form → List Named → Named → ℕ → List ℕ
share_text form head share boards = line_text form (head ++ share ∷ number (codes "boards") boards ∷ [])

-- the line of the number at a place, none if no board has it
abbrev pub place_line : Form → List Named → Column → (ℕ → ℕ) → ℕ → List ℕ
place_line form head column boards place = share_line (share_text form head (column_member column (number_at column place))) (boards place)

-- those of the first places, where this many boards have each number
unfoldable pub row_lines : Form → List Named → Column → (ℕ → ℕ) → ℕ → List ℕ
row_lines form head column boards places = flat_map (place_line form head column boards) (range_with_len 0 places)
