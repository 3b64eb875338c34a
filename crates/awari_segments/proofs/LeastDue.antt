-- Which lists are empty, and so how far the least board is.
use Rattle.std.proofs.Common.{◌≡◌, ℕ, zero, suc, ◌+◌, ◌<◌, ◌≤◌, List, [], ◌∷◌, ◌++◌, map, refl, sym, subst₂, arith, All, nat_lt, Bool, true, false, ◌==◌, ◌≢◌, eqb-true, length, get_or, Vec, ap, ◌∙◌}
use Rattle.std.proofs.lemmas.Bool.Decides.{nat_tests}
use Rattle.std.proofs.lemmas.List.Elements.{All-append, All-map, All-nil}
use Rattle.awari_block.specs.Blocks.{Due, due_dist}
use Rattle.awari_segments.specs.Lists.{dues_from, list_at, lists_of}
use Rattle.awari_segments.proofs.ListLemmas.{AreEmpty, lists_of-at}
use Rattle.awari_block.proofs.ListParts.{All-append_second}

-- no list has anything if no board has such a distance
pub none_below : (ls : List (List ℕ)) (d from i : ℕ) → All (λ (f : Due). from ≤ due_dist f) (dues_from d ls) → d + i < from → list_at ls i ≡ []
none_below [] d from i all less = refl
none_below ([] ∷ ls) d from zero all less = refl
none_below ((x ∷ xs) ∷ ls) d from zero all less = let h = all 0 (0, 0) (omega arith) in absurd (omega (arith, h, less))
none_below (l ∷ ls) d from (suc i) all less = none_below ls (suc d) from i (All-append_second (λ (f : Due). from ≤ due_dist f) (map (λ r. (d, r)) l) (dues_from (suc d) ls) all) (omega (arith, less))

-- those of one list are as far as this
far_list : (d n : ℕ) (l : List ℕ) → n ≤ d → All (λ (f : Due). n ≤ due_dist f) (map (λ r. (d, r)) l)
far_list d n l h = All-map (λ (f : Due). n ≤ due_dist f) (λ (r : ℕ). (d, r)) l (λ k x less. h)

-- no board is nearer than the first list that is not empty
pub least_from : (ls : List (List ℕ)) (d n : ℕ) → ((i : ℕ) → d + i < n → list_at ls i ≡ []) → All (λ (f : Due). n ≤ due_dist f) (dues_from d ls)
least_from [] d n empty = All-nil (λ (f : Due). n ≤ due_dist f)
least_from (l ∷ ls) d n empty =
    All-append (λ (f : Due). n ≤ due_dist f) (map (λ r. (d, r)) l) (dues_from (suc d) ls) (first l (empty 0)) (least_from ls (suc d) n (λ i less. empty (suc i) (omega (arith, less))))
  where
    first : (l : List ℕ) → (d + 0 < n → l ≡ []) → All (λ (f : Due). n ≤ due_dist f) (map (λ r. (d, r)) l)
    first [] none = All-nil (λ (f : Due). n ≤ due_dist f)
    first (x ∷ xs) none = far_list d n (x ∷ xs) (by (nat_lt d n) refl)
      where
        below : (a b : ℕ) → nat_lt a b ≡ true → a < b
        below a b e = grind (arith, nat_tests)

        beyond : (a b : ℕ) → nat_lt a b ≡ false → b ≤ a
        beyond a b e = grind (arith, nat_tests)

        some : x ∷ xs ≡ [] → ⊥
        some e = absurd (cc)

        by : (b : Bool) → nat_lt d n ≡ b → n ≤ d
        by true e = let h = below d n e in absurd (some (none (omega (arith, h))))
        by false e = beyond d n e

pub none_from : (ls : List (List ℕ)) (d : ℕ) → ((i : ℕ) → list_at ls i ≡ []) → dues_from d ls ≡ []
none_from [] d empty = refl
none_from (l ∷ ls) d empty = subst₂ (λ (x : List ℕ) fs. map (λ r. (d, r)) x ++ fs ≡ []) (sym (empty 0)) (sym (none_from ls (suc d) (λ i. empty (suc i)))) refl

-- what is not empty has a first one
pub first_of : (xs : List ℕ) → 0 < length xs → (value : ℕ) × (rest : List ℕ) × (xs ≡ value ∷ rest)
first_of [] some = absurd (omega (arith, some))
first_of (x ∷ xs) some = (x, xs, refl)

-- one more list is empty
pub empty_next : {Z : Type 0} → (vs : List (Vec ℕ Z)) (k : ℕ) (v : Vec ℕ Z) → k < length vs → v ≡ get_or vs k v → length v.items ≡ 0 → AreEmpty vs k → AreEmpty vs (k + 1)
empty_next vs k v inside read none before i less = by (i == k) refl
  where
    differ : (a b : ℕ) → (a == b) ≡ false → a ≢ b
    differ a b e = grind (arith, nat_tests)

    nothing : (xs : List ℕ) → length xs ≡ 0 → xs ≡ []
    nothing [] e = refl
    nothing (x ∷ xs) e = absurd (omega (arith, e))

    by : (b : Bool) → (i == k) ≡ b → list_at (lists_of vs) i ≡ []
    by true e = ap (list_at (lists_of vs)) (eqb-true i k e) ∙ lists_of-at vs k v inside ∙ ap (λ (w : Vec ℕ _). w.items) (sym read) ∙ nothing v.items none
    by false e = let ne = differ i k e in before i (omega (arith, less, ne))
