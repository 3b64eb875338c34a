-- What the readers of words and numbers answer, as functions on lists.
use Rattle.std.specs.Prelude.{ℕ, ◌+◌, ◌-◌, ◌*◌, ◌||◌, List, [], ◌∷◌, Option, Some, None, nat_lt, ◌==◌, if◌then◌else◌}

infixl 10 ◌>>=◌
abbrev pub ◌>>=◌ : {A B : Type 0} → Option A → (A → Option B) → Option B
None >>= f = None
(Some x) >>= f = f x

-- what follows the byte
abbrev pub after_byte : ℕ → List ℕ → Option (List ℕ)
after_byte byte [] = None
after_byte byte (c ∷ cs) = if c == byte then Some cs else None

-- what follows the word
abbrev pub after_text : List ℕ → List ℕ → Option (List ℕ)
after_text [] bytes = Some bytes
after_text (c ∷ word) bytes = after_byte c bytes >>= after_text word

-- the number of the digits so far and those up to the end, and what follows the end
abbrev pub digits_at : ℕ → ℕ → List ℕ → Option (ℕ × List ℕ)
digits_at end n [] = None
digits_at end n (c ∷ cs) =
    if c == end then Some (n, cs)
    else if nat_lt c 48 || nat_lt 57 c then None
    else if nat_lt 4294967295 (n * 10 + (c - 48)) then None
    else digits_at end (n * 10 + (c - 48)) cs

-- a number below 2 ^ 32 up to the end
abbrev pub number_at : ℕ → List ℕ → Option (ℕ × List ℕ)
number_at end [] = None
number_at end (c ∷ cs) =
    if c == 48 then (after_byte end cs >>= λ rest. Some (0, rest))
    else if nat_lt c 49 || nat_lt 57 c then None
    else digits_at end (c - 48) cs
