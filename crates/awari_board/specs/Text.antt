-- How a board is spelled: the twelve numbers in decimal, as 0,0,0,0,0,12/4,0,0,0,0,0.
use Rattle.std.specs.Prelude.{◌≡◌, ℕ, ◌+◌, ◌/◌, ◌%◌, ◌<◌, ◌==◌, Bool, ◌||◌, nat_le, if◌then◌else◌, List, [], ◌∷◌, ◌++◌, length, slice_index, filter}
use Rattle.std.specs.List.{range_with_len, flat_map, slice_split}

-- the decimal digits of a number below 100: no zero leads
abbrev pub digits : ℕ → List ℕ
digits n = (if nat_le 10 n then (48 + n / 10) ∷ [] else []) ++ (48 + n % 10) ∷ []

-- what stands after pit i: a slash after the mover's last pit, nothing after the last of all, else a comma
abbrev pub mark_after : ℕ → List ℕ
mark_after i = if i == 11 then [] else ((if i == 5 then 47 else 44) ∷ [])

-- the text of the first n pits
abbrev pub text_to : List ℕ → ℕ → List ℕ
text_to board n = flat_map (λ i. digits (slice_index board i) ++ mark_after i) (range_with_len 0 n)

-- the text of a board
unfoldable pub text_of : List ℕ → List ℕ
text_of board = text_to board 12

-- a byte that parts two fields: a comma or a slash
abbrev pub is_separator : ℕ → Bool
is_separator b = b == 44 || b == 47

-- the separators of a board's text: five commas, a slash and five commas
abbrev pub marks : List ℕ
marks = flat_map mark_after (range_with_len 0 12)

-- the text is twelve fields, whatever they are, parted by those separators
abbrev pub IsShaped : List ℕ → Type 0
IsShaped text = filter is_separator text ≡ marks

-- the fields of a text: its runs of bytes between separators
abbrev pub fields : List ℕ → List (List ℕ)
fields text = slice_split is_separator text

-- the text is that of twelve numbers below 100, however many stones they make
pub record IsReadAs (text counts : List ℕ) : Type 0 where
  pub size : length counts ≡ 12
  pub small : (k : ℕ) → slice_index counts k < 100
  pub read : text ≡ text_of counts
