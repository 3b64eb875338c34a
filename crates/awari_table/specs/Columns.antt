-- Entries that lie in two columns: the values, and the plans with the distances.
use Rattle.std.specs.Prelude.{ℕ, ◌<◌, ◌/◌, ◌%◌, zero, suc, List, [], ◌∷◌, ℤ, Option, Some, None, IfSome}
use Rattle.awari_table.specs.declared.images.Entry.{Entry}

-- an entry that the columns can hold: its plan is an own pit or the like, and its distance has at most thirteen bits
pub record FitsColumns (e : Entry) : Type 0 where
  pub plan : IfSome e.plan (λ x. x < 7)
  pub dist : e.dist < 8192

-- the plan of a code: none is 0, and a pit is one more than its number
abbrev pub plan_of_code : ℕ → Option ℕ
plan_of_code zero = None
plan_of_code (suc pit) = Some pit

-- the entry of a value and a tail
abbrev pub row : ℤ → ℕ → Entry
row value tail = record { value = value; plan = plan_of_code (tail % 8); dist = tail / 8 }

-- the entries of the columns
abbrev pub rows : List ℤ → List ℕ → List Entry
rows [] tails = []
rows (v ∷ vs) [] = []
rows (v ∷ vs) (t ∷ ts) = row v t ∷ rows vs ts
