-- What is written of a refusal, in each form, and the request beside it in JSON.
use Rattle.std.specs.Prelude.{ℕ, Bool, true, false, List, [], ◌∷◌, ◌++◌, Option, None, Some, codes, map}
use Rattle.std.specs.Fmt.{decimal}
use Rattle.std.specs.List.{flat_map}
use Rattle.awari_faults.specs.Meanings.{name_of}
use Rattle.awari_faults.specs.Refusals.{Shown, Words, refusal_text}
use Rattle.awari_members.specs.Members.{Named, line_text, number, string, text}
use Rattle.awari_members.specs.declared.forms.Form.{Form}
use Rattle.awari_members.specs.declared.forms.Form.TheVariants.{Text, Csv, Json}
use Rattle.awari_shown.specs.Json.{request_member}

-- A row of CSV: a comma (44) before each, the number, the name, and the name and the value of each field.
abbrev pub field_in_row : Shown → List ℕ
field_in_row f = 44 ∷ (f.name ++ 44 ∷ f.value)

abbrev pub row_of : Words → List ℕ
row_of w = 44 ∷ (decimal w.number ++ 44 ∷ (name_of w.number ++ flat_map field_in_row w.fields))

-- a field of a fault as a member: in JSON a word is a string
abbrev pub value_in : Bool → List ℕ → Form → List ℕ
value_in true value = string value
value_in false value = λ form. value

abbrev pub named : Shown → Named
named f = record { name = f.name; value = value_in f.is_word f.value }

-- an object has a number, a name, the fields, and the fault inside as an object
abbrev pub members_of : Words → List Named
members_of w = number (codes "refused") w.number ∷ text (codes "name") (name_of w.number) ∷ map named w.fields

abbrev pub inside_members : List Words → List Named
inside_members [] = []
inside_members (w ∷ inside) = record { name = codes "inside"; value = λ form. line_text Json (members_of w ++ inside_members inside) } ∷ []

abbrev pub object_members : List Words → List Named
object_members [] = []
object_members (w ∷ inside) = members_of w ++ inside_members inside

-- The line of a refusal: the faults as they are printed; as rows; or an object of the request and of the faults.
abbrev pub refusal_line : Form → List ℕ → List Words → List ℕ
refusal_line Text request faults = codes "refused " ++ refusal_text faults
refusal_line Csv request faults = codes "refused" ++ flat_map row_of faults
refusal_line Json request faults = line_text Json (request_member request ∷ object_members faults)

-- the word of a request about a level, or about all
abbrev pub level_word : Option ℕ → List ℕ
level_word None = []
level_word (Some level) = decimal level

-- a request: a command, and its word behind a space if it has one
abbrev pub request_text : List ℕ → List ℕ → List ℕ
request_text command [] = command
request_text command (byte ∷ word) = command ++ 32 ∷ byte ∷ word
