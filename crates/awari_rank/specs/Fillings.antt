-- The ways to fill six pits.
use Rattle.std.specs.Prelude.{ℕ, List, [], ◌∷◌}

-- six empty pits, and six that have all of k stones in the first
abbrev pub none : List ℕ
none = 0 ∷ 0 ∷ 0 ∷ 0 ∷ 0 ∷ 0 ∷ []

abbrev pub last_of : ℕ → List ℕ
last_of k = k ∷ 0 ∷ 0 ∷ 0 ∷ 0 ∷ 0 ∷ []
