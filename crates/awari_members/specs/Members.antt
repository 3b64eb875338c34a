-- Lines that are lists of members: a member has a name and a value.
use Rattle.std.specs.Prelude.{ℕ, ◌+◌, ◌*◌, ◌==◌, if◌then◌else◌, Bool, List, [], ◌∷◌, ◌++◌, length, map, sum_by, codes, ℤ, Option, None, Some}
use Rattle.std.specs.Fmt.{decimal, signed_decimal}
use Rattle.std.specs.List.{flat_map}
use Rattle.awari_board.specs.Text.{text_of}
use Rattle.awari_members.specs.Json.{array, commas, member, object, quoted, truth_text}
use Rattle.awari_members.specs.declared.forms.Form.{Form}
use Rattle.awari_members.specs.declared.forms.Form.TheVariants.{Text, Csv, Json}
use Rattle.awari_members.specs.declared.lines.Member.{Member}
use Rattle.awari_members.specs.declared.values.Value.{Value}
use Rattle.awari_members.specs.declared.values.Value.TheVariants as value

-- a name, and a value in each form
pub record Named : Type 0 where
  pub name : List ℕ
  pub value : Form → List ℕ

-- a text, which is a string in JSON
abbrev pub string : List ℕ → Form → List ℕ
string text Json = quoted text
string text form = text

-- a board, in quotes but in a line with spaces
abbrev pub board_in : List ℕ → Form → List ℕ
board_in pits Text = text_of pits
board_in pits Csv = quoted (text_of pits)
board_in pits Json = quoted (text_of pits)

-- pits as an array
abbrev pub pits_in : List ℕ → Form → List ℕ
pits_in pits form = array (map decimal pits)

-- what stands for no value
abbrev pub missing : Form → List ℕ
missing Text = codes "-"
missing Csv = []
missing Json = codes "null"

-- a pit, if there is one
abbrev pub pit_in : Option ℕ → Form → List ℕ
pit_in None = missing
pit_in (Some pit) = λ form. decimal pit

-- members with a number, with a number that has a sign, with a text, with a board, with pits, with a pit or none, and with a truth
abbrev pub number : List ℕ → ℕ → Named
number name n = record { name = name; value = λ form. decimal n }

abbrev pub signed : List ℕ → ℤ → Named
signed name n = record { name = name; value = λ form. signed_decimal n }

abbrev pub board : List ℕ → List ℕ → Named
board name pits = record { name = name; value = board_in pits }

abbrev pub text : List ℕ → List ℕ → Named
text name bytes = record { name = name; value = string bytes }

abbrev pub pits : List ℕ → List ℕ → Named
pits name moves = record { name = name; value = pits_in moves }

abbrev pub pit : List ℕ → Option ℕ → Named
pit name p = record { name = name; value = pit_in p }

abbrev pub truth : List ℕ → Bool → Named
truth name b = record { name = name; value = λ form. truth_text b }

abbrev pub value_text : Value → Form → List ℕ
value_text (value.Number n) = λ form. decimal n
value_text (value.Signed n) = λ form. signed_decimal n
value_text (value.Text text) = string text.now
value_text (value.Board pits) = board_in pits
value_text (value.Pits pits) = pits_in pits.now
value_text (value.Truth b) = λ form. truth_text b
value_text value.Missing = missing

abbrev pub said : Member → Named
said m = record { name = m.name.now; value = value_text m.value }

-- a name and a value with a space (32) between them, the value alone, or a member of an object
abbrev pub member_text : Form → Named → List ℕ
member_text Text m = m.name ++ 32 ∷ m.value Text
member_text Csv m = m.value Csv
member_text Json m = member m.name (m.value Json)

-- texts with spaces between them
abbrev pub spaced : List (List ℕ) → List ℕ
spaced [] = []
spaced (text ∷ texts) = text ++ flat_map (λ t. 32 ∷ t) texts

-- Names and values with spaces, values with commas, or an object: all of one list, in its order.
unfoldable pub line_text : Form → List Named → List ℕ
line_text Text members = spaced (map (member_text Text) members)
line_text Csv members = commas (map (member_text Csv) members)
line_text Json members = object (map (member_text Json) members)

-- A row of a table: values alone with spaces or commas, or an object.
unfoldable pub row_text : Form → List Named → List ℕ
row_text Text members = spaced (map (λ m. m.value Text) members)
row_text Csv members = line_text Csv members
row_text Json members = line_text Json members

-- the names with commas, which stand above rows of CSV
abbrev pub names_text : List Named → List ℕ
names_text members = commas (map (λ m. m.name) members)

-- the line that this number of boards gets, none if it is 0
abbrev pub share_line : (ℕ → List ℕ) → ℕ → List ℕ
share_line shown boards = if boards == 0 then [] else shown boards ++ 10 ∷ []

-- Fronts of these texts. No public contract goes by them, but for that of `push_members`.

-- what stands between two members
abbrev pub mark_of : Form → List ℕ
mark_of Text = codes " "
mark_of Csv = codes ","
mark_of Json = codes ","

-- what is shown of members, with a mark before the first, and another one between them
abbrev pub marked_by : (Named → List ℕ) → List ℕ → List ℕ → List Named → List ℕ
marked_by shown between mark [] = []
marked_by shown between mark (m ∷ members) = mark ++ (shown m ++ marked_by shown between between members)

-- members, or their values alone
abbrev pub marked : Form → List ℕ → List Named → List ℕ
marked form mark members = marked_by (member_text form) (mark_of form) mark members

abbrev pub valued : Form → List ℕ → List Named → List ℕ
valued form mark members = marked_by (λ m. m.value form) (mark_of form) mark members

-- names with commas
abbrev pub named : List ℕ → List Named → List ℕ
named mark members = marked_by (λ m. m.name) (codes ",") mark members

-- a name, and what stands behind it
abbrev pub name_in : Form → List ℕ → List ℕ
name_in Text name = name ++ codes " "
name_in Csv name = []
name_in Json name = quoted name ++ codes ":"

abbrev pub later_pits : List ℕ → List ℕ
later_pits pits = flat_map (λ pit. codes "," ++ decimal pit) pits

abbrev pub pits_text : List ℕ → List ℕ
pits_text [] = []
pits_text (pit ∷ pits) = decimal pit ++ later_pits pits

-- the most bytes that a value takes
abbrev pub width : Value → ℕ
width (value.Number n) = 20
width (value.Signed n) = 21
width (value.Text text) = length text.now + 2
width (value.Board pits) = 37
width (value.Pits pits) = 21 * length pits.now + 2
width (value.Truth b) = 5
width value.Missing = 4

-- the most bytes that members take, each behind a mark
abbrev pub room_for : Member → ℕ
room_for m = 4 + length m.name.now + width m.value

abbrev pub room_of : List Member → ℕ
room_of members = sum_by room_for members
