-- How a sample is drawn from a list.
use Rattle.std.specs.Prelude.{ℕ, ◌+◌, ◌-◌, ◌*◌, ◌/◌, ◌%◌, ◌==◌, max, nat_lt, Bool, true, if◌then◌else◌, List, ◌∷◌, [], Option, Some, None}
use Rattle.awari_queries.specs.declared.draws.Draw.{Draw}

-- the numbers by which it is drawn: each is made of the one before
abbrev pub next_number : ℕ → ℕ
next_number s = (s * 6364136223846793005 + 1442695040888963407) % 18446744073709551616

-- Of those that are left, this many are wanted. The next one is drawn with that chance.
abbrev pub is_drawn : Draw → Bool
is_drawn d = nat_lt (next_number d.seed / 4294967296 % max 1 d.left) d.wanted

-- what is left to draw after the next one
abbrev pub drawn : Draw → Draw
drawn d = record { seed = next_number d.seed; wanted = if is_drawn d then d.wanted - 1 else d.wanted; left = d.left - 1 }

-- those that are drawn of a list, in its order
abbrev pub sample : {A : Type 0} → Draw → List A → List A
sample d [] = []
sample d (x ∷ xs) = if is_drawn d then x ∷ sample (drawn d) xs else sample (drawn d) xs

-- all of a list, or those that are drawn
abbrev pub taken : {A : Type 0} → Option Draw → List A → List A
taken None xs = xs
taken (Some d) xs = sample d xs

-- how a sample of this many is drawn from this many that are left; 0 is no sample
abbrev pub draw_of : ℕ → ℕ → ℕ → Option Draw
draw_of wanted seed left = if wanted == 0 then None else Some (record { seed = seed; wanted = wanted; left = left })

-- whether the next one is taken, and what is left to draw after it
abbrev pub is_taken : Option Draw → Bool
is_taken None = true
is_taken (Some d) = is_drawn d

abbrev pub drawn_on : Option Draw → Option Draw
drawn_on None = None
drawn_on (Some d) = Some (drawn d)

-- what is left to draw behind a list
abbrev pub left_after : {A : Type 0} → Option Draw → List A → Option Draw
left_after d [] = d
left_after d (x ∷ xs) = left_after (drawn_on d) xs
