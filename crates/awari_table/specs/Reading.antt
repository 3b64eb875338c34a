-- What the readers of a line answer, as functions on lists. Private functions alone go by these: no public contract does.
use Rattle.std.specs.Prelude.{ℕ, ℤ, pos, negsuc, ◌-◌, ◌||◌, List, [], ◌∷◌, Option, Some, None, nat_lt, ◌==◌, if◌then◌else◌, codes}
use Rattle.awari_streams.specs.Reading.{◌>>=◌, after_byte, after_text, number_at}
use Rattle.awari_table.specs.declared.images.Entry.{Entry}
use Rattle.awari_table.specs.declared.lines.Header.{Header}

abbrev pub small : ℕ → List ℕ → Option (ℤ × List ℕ)
small n rest = if nat_lt 127 n then None else Some (pos n, rest)

-- the negative number of this size, if it is one
abbrev pub negative : ℕ → List ℕ → Option (ℤ × List ℕ)
negative n rest = if n == 0 || nat_lt 128 n then None else Some (negsuc (n - 1), rest)

abbrev pub value_at : List ℕ → Option (ℤ × List ℕ)
value_at [] = None
value_at (c ∷ cs) =
    if c == 45 then (number_at 32 cs >>= λ n. negative n.0 n.1)
    else (number_at 32 (c ∷ cs) >>= λ n. small n.0 n.1)

abbrev pub pit_at : ℕ → List ℕ → Option (Option ℕ × List ℕ)
pit_at n rest = if nat_lt 5 n then None else Some (Some n, rest)

abbrev pub plan_at : List ℕ → Option (Option ℕ × List ℕ)
plan_at [] = None
plan_at (c ∷ cs) =
    if c == 45 then (after_byte 32 cs >>= λ rest. Some (None, rest))
    else (number_at 32 (c ∷ cs) >>= λ n. pit_at n.0 n.1)

unfoldable pub entry_at : List ℕ → Option (Entry × List ℕ)
entry_at bytes = do
  v ← value_at bytes
  p ← plan_at v.1
  d ← number_at 10 p.1
  Some (record { value = v.0; plan = p.0; dist = d.0 }, d.1)

unfoldable pub header_at : List ℕ → Option (Header × List ℕ)
header_at bytes = do
  a ← after_text (codes "level ") bytes
  n ← number_at 32 a
  b ← after_text (codes "limit ") n.1
  k ← number_at 10 b
  if nat_lt 255 n.0 then None else Some (record { level = n.0; limit = k.0 }, k.1)
