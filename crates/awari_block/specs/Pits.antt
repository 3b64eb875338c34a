-- Sets of own pits, a bit for each.
use Rattle.std.specs.Prelude.{◌≡◌, ℕ, ◌-◌, ◌^◌, ◌<◌, ◌==◌, Bool, true, false, not, List, [], ◌∷◌, Option, Some, None, bit_and, bit_or}

-- whether pit x is among these
abbrev pub has_pit : ℕ → ℕ → Bool
has_pit pits x = not (bit_and pits (2 ^ x) == 0)

-- these pits and x
abbrev pub with_pit : ℕ → ℕ → ℕ
with_pit pits x = bit_or pits (2 ^ x)

-- these pits but x
abbrev pub without_pit : ℕ → ℕ → ℕ
without_pit pits x = bit_and pits (255 - 2 ^ x)

abbrev pub pits : List ℕ
pits = 0 ∷ 1 ∷ 2 ∷ 3 ∷ 4 ∷ 5 ∷ []

-- the lowest of these pits, or none where there is none
abbrev pub IsLowestIn : ℕ → Option ℕ → Type 0
IsLowestIn pits None = (x : ℕ) → x < 6 → has_pit pits x ≡ false
IsLowestIn pits (Some x) = (x < 6) × (has_pit pits x ≡ true) × ((y : ℕ) → y < x → has_pit pits y ≡ false)
