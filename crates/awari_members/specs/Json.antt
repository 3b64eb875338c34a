-- JSON as the program prints it: objects and arrays without spaces, and strings in ASCII.
use Rattle.std.specs.Prelude.{ℕ, ◌+◌, ◌/◌, ◌%◌, ◌==◌, nat_le, nat_lt, not, ◌&&◌, if◌then◌else◌, Bool, List, [], ◌∷◌, ◌++◌, codes}
use Rattle.std.specs.List.{flat_map}

-- a hexadecimal digit in lower case
abbrev pub hex_digit : ℕ → ℕ
hex_digit n = if nat_lt n 10 then 48 + n else 87 + n

-- the byte stands for itself in a string: it is printable ASCII, and neither a quote (34) nor a backslash (92)
abbrev pub is_plain : ℕ → Bool
is_plain b = nat_le 32 b && nat_le b 126 && not (b == 34) && not (b == 92)

-- a byte in a string: itself, or by its number
abbrev pub string_byte : ℕ → List ℕ
string_byte b = if is_plain b then b ∷ [] else 92 ∷ 117 ∷ 48 ∷ 48 ∷ hex_digit (b / 16) ∷ hex_digit (b % 16) ∷ []

-- a text of bytes that stand for themselves, in quotes
abbrev pub quoted : List ℕ → List ℕ
quoted text = 34 ∷ (text ++ 34 ∷ [])

-- any bytes as a string
abbrev pub json_string : List ℕ → List ℕ
json_string bytes = quoted (flat_map string_byte bytes)

-- a name, a colon (58) and a value
abbrev pub member : List ℕ → List ℕ → List ℕ
member name value = quoted name ++ 58 ∷ value

-- texts with commas (44) between them
abbrev pub commas : List (List ℕ) → List ℕ
commas [] = []
commas (text ∷ texts) = text ++ flat_map (λ t. 44 ∷ t) texts

-- the comma before an element of this index
abbrev pub comma_before : ℕ → List ℕ
comma_before i = if i == 0 then [] else 44 ∷ []

abbrev pub object : List (List ℕ) → List ℕ
object members = 123 ∷ (commas members ++ 125 ∷ [])

abbrev pub array : List (List ℕ) → List ℕ
array elements = 91 ∷ (commas elements ++ 93 ∷ [])

abbrev pub truth_text : Bool → List ℕ
truth_text truth = if truth then codes "true" else codes "false"
