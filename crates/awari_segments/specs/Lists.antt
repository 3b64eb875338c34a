-- Lists by a number: fresh boards by distance, notes by block.
use Rattle.std.specs.Prelude.{ℕ, zero, suc, List, [], ◌∷◌, ◌++◌, map, slice_index_or, Vec}
use Rattle.awari_block.specs.Blocks.{Due}

-- the list at this number, empty where there is none
abbrev pub list_at : List (List ℕ) → ℕ → List ℕ
list_at lists k = slice_index_or lists k []

-- with one more behind the list at this number
abbrev pub with_put : List (List ℕ) → ℕ → ℕ → List (List ℕ)
with_put [] zero v = (v ∷ []) ∷ []
with_put [] (suc k) v = [] ∷ with_put [] k v
with_put (l ∷ ls) zero v = (l ++ v ∷ []) ∷ ls
with_put (l ∷ ls) (suc k) v = l ∷ with_put ls k v

-- with nothing in the list at this number
abbrev pub without : List (List ℕ) → ℕ → List (List ℕ)
without [] k = []
without (l ∷ ls) zero = [] ∷ ls
without (l ∷ ls) (suc k) = l ∷ without ls k

-- the boards of these ranks, the lists being by distance from d on
abbrev pub dues_from : ℕ → List (List ℕ) → List Due
dues_from d [] = []
dues_from d (l ∷ ls) = map (λ r. (d, r)) l ++ dues_from (suc d) ls

abbrev pub dues_of : List (List ℕ) → List Due
dues_of lists = dues_from 0 lists

-- what these vectors hold
abbrev pub lists_of : {Z : Type 0} → List (Vec ℕ Z) → List (List ℕ)
lists_of [] = []
lists_of (v ∷ vs) = v.items ∷ lists_of vs
