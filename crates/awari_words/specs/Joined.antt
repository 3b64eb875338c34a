-- Words in which a value that begins with a hyphen is joined to the option before it: `--value -3..2` is `--value=-3..2`, and
-- `--sort -value` is `--sort=-value`. A word `--` ends the options.
use Rattle.std.specs.Prelude.{ℕ, Bool, false, ◌&&◌, ◌||◌, ◌==◌, if◌then◌else◌, List, [], ◌∷◌, ◌++◌, codes, nat_le}
use Rattle.std.specs.Str.{bytes_eq}

-- the option has a span as its value
abbrev pub takes_span : List ℕ → Bool
takes_span word = bytes_eq word (codes "--value") || bytes_eq word (codes "--distance") || bytes_eq word (codes "--plan") || bytes_eq word (codes "--captures")
    || bytes_eq word (codes "--greedy") || bytes_eq word (codes "--side") || bytes_eq word (codes "--moves") || bytes_eq word (codes "--keep") || bytes_eq word (codes "--trap")
    || bytes_eq word (codes "--other")

-- the text begins with a hyphen (45) and a digit (48 to 57)
abbrev pub is_below_zero : List ℕ → Bool
is_below_zero [] = false
is_below_zero (c ∷ []) = false
is_below_zero (c ∷ (d ∷ rest)) = c == 45 && (nat_le 48 d && nat_le d 57)

-- the text begins with a hyphen (45) and a small letter (97 to 122)
abbrev pub is_descending : List ℕ → Bool
is_descending [] = false
is_descending (c ∷ []) = false
is_descending (c ∷ (d ∷ rest)) = c == 45 && (nat_le 97 d && nat_le d 122)

-- the value begins with a hyphen, and is one that the option takes
abbrev pub is_joined : List ℕ → List ℕ → Bool
is_joined word value = if bytes_eq word (codes "--sort") then is_descending value else takes_span word && is_below_zero value

-- the words in turn, each with its value; those from a word `--` on are as they are
unfoldable pub joined : List (List ℕ) → List (List ℕ)
joined [] = []
joined (word ∷ []) = word ∷ []
joined (word ∷ (next ∷ rest)) =
    if bytes_eq word (codes "--") then word ∷ (next ∷ rest)
    else if is_joined word next then (word ++ (codes "=" ++ next)) ∷ joined rest
    else word ∷ joined (next ∷ rest)
