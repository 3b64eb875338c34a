-- Lists in order: there is one for each list, and as many of it come first as have no greater number.
use Rattle.std.proofs.Common.{◌≡◌, ℕ, zero, suc, ◌+◌, ◌<◌, ◌≤◌, Bool, true, false, not, ◌&&◌, cond, List, [], ◌∷◌, ◌++◌, length, take, filter, get_or, fold, ℤ, int_lt, int_le, is_lt, refl, subst, sym, ap, ◌∙◌, arith}
use Rattle.std.specs.List.Sorted.{IsSortedBy, IsStableBy, ties}
use Rattle.std.specs.Ordering.{int_cmp}
use Rattle.std.specs.declared.cmp.Ordering.TheVariants.{Less, Equal, Greater}
use Rattle.std.proofs.lemmas.Bool.Decides.{nat_tests}
use Rattle.std.proofs.lemmas.Int.{ints}
use Rattle.std.proofs.lemmas.List.{append-nil}
use Rattle.awari_queries.specs.Holding.{first, placed, sorted}
use Rattle.awari_queries.proofs.HoldingLaws.{IsInOrder, NoneBelow, in_order-placed, in_order-sorted, none_below-at, none_below-lower}

-- ---- there is one

abbrev below : {A : Type 0} → (A → ℤ) → A → A → Bool
below by x y = int_lt (by x) (by y)

same_not_below : (a : ℤ) → int_lt a a ≡ false
same_not_below a = grind (arith, ints, nat_tests)

tied : (a b : ℤ) → int_lt a b ≡ false → int_lt b a ≡ false → not (int_lt a b) && not (int_lt b a) ≡ true
tied a b one other = ap (λ t. not t && not (int_lt b a)) one ∙ ap not other

untied : (a x z : ℤ) → not (int_lt a x) && not (int_lt x a) ≡ true → int_lt x z ≡ true → not (int_lt a z) && not (int_lt z a) ≡ false
untied a x z tie less = grind (arith, ints, nat_tests)

beyond : (x y z : ℤ) → int_lt x y ≡ true → int_lt z y ≡ false → int_lt x z ≡ true
beyond x y z less not = grind (arith, ints, nat_tests)

kept : {A : Type 0} (p : A → Bool) (y : A) (ys : List A) → p y ≡ true → filter p (y ∷ ys) ≡ y ∷ filter p ys
kept p y ys is = ap (λ b. cond b (y ∷ filter p ys) (filter p ys)) is

dropped : {A : Type 0} (p : A → Bool) (y : A) (ys : List A) → p y ≡ false → filter p (y ∷ ys) ≡ filter p ys
dropped p y ys is = ap (λ b. cond b (y ∷ filter p ys) (filter p ys)) is

-- none of those with a greater number ties
none_tied : {A : Type 0} (by : A → ℤ) (a x y : A) (l : List A) → ties (below by) a x ≡ true → int_lt (by x) (by y) ≡ true → NoneBelow by y l → filter (ties (below by) a) l ≡ []
none_tied by a x y [] tie less none = refl
none_tied by a x y (z ∷ zs) tie less none =
    dropped (ties (below by) a) z zs (untied (by a) (by x) (by z) tie (beyond (by x) (by y) (by z) less none.0)) ∙ none_tied by a x y zs tie less none.1

-- in front of a list whose numbers are all greater, one is as behind it for those that tie
in_front : {A : Type 0} (by : A → ℤ) (a x y : A) (ys : List A) (b : Bool) → ties (below by) a x ≡ b → int_lt (by x) (by y) ≡ true → NoneBelow by y ys
    → filter (ties (below by) a) (x ∷ y ∷ ys) ≡ filter (ties (below by) a) (y ∷ ys) ++ filter (ties (below by) a) (x ∷ [])
in_front {A} by a x y ys true tie less none =
    let p : A → Bool = ties (below by) a in
    let empty : filter p (y ∷ ys) ≡ [] = none_tied by a x y (y ∷ ys) tie less (same_not_below (by y), none) in
    kept p x (y ∷ ys) tie ∙ ap (λ l. x ∷ l) empty ∙ sym (ap (λ l. l ++ filter p (x ∷ [])) empty ∙ kept p x [] tie)
in_front {A} by a x y ys false tie less none =
    let p : A → Bool = ties (below by) a in
    dropped p x (y ∷ ys) tie ∙ sym (ap (λ l. filter p (y ∷ ys) ++ l) (dropped p x [] tie) ∙ append-nil (filter p (y ∷ ys)))

step : {A : Type 0} (y : A) (b : Bool) (l m r : List A) → l ≡ m ++ r → cond b (y ∷ l) l ≡ cond b (y ∷ m) m ++ r
step y true l m r same = ap (λ t. y ∷ t) same
step y false l m r same = same

filter-placed : {A : Type 0} (by : A → ℤ) (a x : A) (l : List A) → IsInOrder by l → filter (ties (below by) a) (placed by x l) ≡ filter (ties (below by) a) l ++ filter (ties (below by) a) (x ∷ [])
filter-placed by a x [] order = refl
filter-placed {A} by a x (y ∷ ys) order = go (int_lt (by x) (by y)) refl (filter-placed by a x ys order.1)
  where
    go : (b : Bool) → int_lt (by x) (by y) ≡ b → filter (ties (below by) a) (placed by x ys) ≡ filter (ties (below by) a) ys ++ filter (ties (below by) a) (x ∷ [])
        → filter (ties (below by) a) (cond b (x ∷ y ∷ ys) (y ∷ placed by x ys)) ≡ filter (ties (below by) a) (y ∷ ys) ++ filter (ties (below by) a) (x ∷ [])
    go true is rest = in_front by a x y ys (ties (below by) a x) refl is order.0
    go false is rest = step y (ties (below by) a y) _ _ _ rest

filter-fold : {A : Type 0} (by : A → ℤ) (a : A) (front xs : List A) → IsInOrder by front
    → filter (ties (below by) a) (fold (λ l x. placed by x l) front xs) ≡ filter (ties (below by) a) front ++ filter (ties (below by) a) xs
filter-fold by a front [] order = sym (append-nil (filter (ties (below by) a) front))
filter-fold {A} by a front (x ∷ xs) order =
    let p : A → Bool = ties (below by) a in
    filter-fold by a (placed by x front) xs (in_order-placed by x front order) ∙ ap (λ l. l ++ filter p xs) (filter-placed by a x front order) ∙ joined (filter p front) (p x)
  where
    joined : (l : List A) (b : Bool) → (l ++ cond b (x ∷ []) []) ++ filter (ties (below by) a) xs ≡ l ++ cond b (x ∷ filter (ties (below by) a) xs) (filter (ties (below by) a) xs)
    joined [] true = refl
    joined [] false = refl
    joined (y ∷ l) b = ap (λ t. y ∷ t) (joined l b)

-- what a list with none below a number has of those that pass is not below it
found : {A : Type 0} (by : A → ℤ) (z w : A) (l rest : List A) (p : A → Bool) → NoneBelow by z l → filter p l ≡ w ∷ rest → int_lt (by w) (by z) ≡ false
found by z w [] rest p none is = cc
found by z w (y ∷ ys) rest p none is = go (p y) is (found by z w ys rest p none.1)
  where
    go : (b : Bool) → cond b (y ∷ filter p ys) (filter p ys) ≡ w ∷ rest → (filter p ys ≡ w ∷ rest → int_lt (by w) (by z) ≡ false) → int_lt (by w) (by z) ≡ false
    go true same behind = let head : y ≡ w = cc in subst (λ u. int_lt (by u) (by z) ≡ false) head none.0
    go false same behind = behind same

-- two lists in order are the same if they have the same for each number
same_list : {A : Type 0} (by : A → ℤ) (ys zs : List A) → IsInOrder by ys → IsInOrder by zs → ((a : A) → filter (ties (below by) a) ys ≡ filter (ties (below by) a) zs) → ys ≡ zs
same_list by [] [] left right same = refl
same_list by [] (z ∷ zs) left right same =
    let clash = same z ∙ kept (ties (below by) z) z zs (tied (by z) (by z) (same_not_below (by z)) (same_not_below (by z))) in cc
same_list by (y ∷ ys) [] left right same =
    let clash = sym (same y) ∙ kept (ties (below by) y) y ys (tied (by y) (by y) (same_not_below (by y)) (same_not_below (by y))) in cc
same_list {A} by (y ∷ ys) (z ∷ zs) left right same =
    let at_y = kept (ties (below by) y) y ys (tied (by y) (by y) (same_not_below (by y)) (same_not_below (by y))) in
    let at_z = kept (ties (below by) z) z zs (tied (by z) (by z) (same_not_below (by z)) (same_not_below (by z))) in
    let up : int_lt (by y) (by z) ≡ false = found by z y (z ∷ zs) _ (ties (below by) y) (same_not_below (by z), right.0) (sym (same y) ∙ at_y) in
    let down : int_lt (by z) (by y) ≡ false = found by y z (y ∷ ys) _ (ties (below by) z) (same_not_below (by y), left.0) (same z ∙ at_z) in
    let heads = sym at_y ∙ same y ∙ kept (ties (below by) y) z zs (tied (by y) (by z) up down) in
    let head : y ≡ z = cc in
    ap (λ w. w ∷ ys) head ∙ ap (λ l. z ∷ l) (same_list by ys zs left.1 right.1 (λ a. tails (ties (below by) a y) a refl head))
  where
    tails : (b : Bool) (a : A) → ties (below by) a y ≡ b → y ≡ z → filter (ties (below by) a) ys ≡ filter (ties (below by) a) zs
    tails true a with head =
        let both = sym (kept (ties (below by) a) y ys with) ∙ same a ∙ kept (ties (below by) a) z zs (ap (ties (below by) a) (sym head) ∙ with) in cc
    tails false a without head =
        sym (dropped (ties (below by) a) y ys without) ∙ same a ∙ dropped (ties (below by) a) z zs (ap (ties (below by) a) (sym head) ∙ without)

in_order-adjacent : {A : Type 0} (by : A → ℤ) (ys : List A) → IsSortedBy (below by) ys → IsInOrder by ys
in_order-adjacent by [] up = tt
in_order-adjacent by (y ∷ []) up = (tt, tt)
in_order-adjacent by (y ∷ z ∷ zs) up =
    let next : (k : ℕ) → suc (k + 1) ≡ suc k + 1 = λ k. omega arith in
    let rest = in_order-adjacent by (z ∷ zs) (λ k d low high. ap (λ n. below by (get_or (y ∷ z ∷ zs) n d) (get_or (z ∷ zs) k d)) (next k) ∙ up (suc k) d (omega arith) (omega (arith, high))) in
    let first : int_lt (by z) (by y) ≡ false = up zero y (omega arith) (omega arith) in
    ((first, none_below-lower by y z zs first rest.0), rest)

-- a list in order is as it is sorted
pub sorted-again : {A : Type 0} (by : A → ℤ) (l : List A) → IsInOrder by l → sorted by l ≡ l
sorted-again by l order = same_list by (sorted by l) l (in_order-sorted by l) order (λ a. filter-fold by a [] l tt)

int_cmp-below : (a b : ℤ) → is_lt (int_cmp a b) ≡ int_lt a b
int_cmp-below a b = go (int_lt a b) (int_lt b a)
  where
    go : (b c : Bool) → is_lt (cond b Less (cond c Greater Equal)) ≡ b
    go true c = refl
    go false true = refl
    go false false = refl

-- what a stable sort makes of a list
pub sorted-stably : {A : Type 0} (by : A → ℤ) (xs ys : List A) → IsSortedBy (λ x y. is_lt (int_cmp (by x) (by y))) ys → IsStableBy (λ x y. is_lt (int_cmp (by x) (by y))) xs ys → ys ≡ sorted by xs
sorted-stably {A} by xs ys up stable =
    let up' : IsSortedBy (below by) ys = subst (λ (lt : A → A → Bool). IsSortedBy lt ys) (λ i x y. int_cmp-below (by x) (by y) i) up in
    let stable' : IsStableBy (below by) xs ys = subst (λ (lt : A → A → Bool). IsStableBy lt xs ys) (λ i x y. int_cmp-below (by x) (by y) i) stable in
    same_list by ys (sorted by xs) (in_order-adjacent by ys up') (in_order-sorted by xs) (λ a. stable' a ∙ sym (filter-fold by a [] xs tt))

-- ---- how many have no greater number

abbrev to : {A : Type 0} → (A → ℤ) → ℤ → A → Bool
to by n x = int_le (by x) n

not_to : (x y n : ℤ) → int_le n x ≡ true → int_lt x y ≡ true → int_le y n ≡ false
not_to x y n behind less = grind (arith, ints, nat_tests)

to_from : (x n : ℤ) → int_lt n x ≡ false → int_le x n ≡ true
to_from x n not = grind (arith, ints, nat_tests)

none_to : {A : Type 0} (by : A → ℤ) (n : ℤ) (x y : A) (l : List A) → int_le n (by x) ≡ true → int_lt (by x) (by y) ≡ true → NoneBelow by y l → length (filter (to by n) l) ≡ 0
none_to by n x y [] behind less none = refl
none_to by n x y (z ∷ zs) behind less none =
    ap length (dropped (to by n) z zs (not_to (by x) (by z) n behind (beyond (by x) (by y) (by z) less none.0))) ∙ none_to by n x y zs behind less none.1

-- one that has no smaller number than so many comes behind these
behind : {A : Type 0} (by : A → ℤ) (n : ℤ) (x : A) (most : ℕ) (l : List A) → IsInOrder by l → most ≤ length (filter (to by n) l) → int_le n (by x) ≡ true → take most (placed by x l) ≡ take most l
behind by n x zero l order many is = refl
behind by n x (suc most) [] order many is = absurd (omega (arith, many))
behind {A} by n x (suc most) (y ∷ ys) order many is = go (int_lt (by x) (by y)) refl (λ fewer. behind by n x most ys order.1 fewer is)
  where
    fewer : (b : Bool) → suc most ≤ length (cond b (y ∷ filter (to by n) ys) (filter (to by n) ys)) → most ≤ length (filter (to by n) ys)
    fewer true many = omega (arith, many)
    fewer false many = omega (arith, many)

    go : (b : Bool) → int_lt (by x) (by y) ≡ b → (most ≤ length (filter (to by n) ys) → take most (placed by x ys) ≡ take most ys)
        → take (suc most) (cond b (x ∷ y ∷ ys) (y ∷ placed by x ys)) ≡ take (suc most) (y ∷ ys)
    go true less rest = absurd (omega (arith, many, none_to by n x y (y ∷ ys) is less (same_not_below (by y), order.0)))
    go false less rest = ap (λ t. y ∷ t) (rest (fewer (to by n y) many))

pub first-behind : {A : Type 0} (by : A → ℤ) (n : ℤ) (x : A) (most : ℕ) (l : List A) → IsInOrder by l → 0 < most → most ≤ length (filter (to by n) l) → int_le n (by x) ≡ true → first most (placed by x l) ≡ first most l
first-behind by n x zero l order some many is = absurd (omega (arith, some))
first-behind by n x (suc most) l order some many is = behind by n x (suc most) l order many is

count-placed : {A : Type 0} (p : A → Bool) (by : A → ℤ) (x : A) (l : List A) → length (filter p (placed by x l)) ≡ length (filter p (x ∷ l))
count-placed p by x [] = refl
count-placed {A} p by x (y ∷ ys) = go (int_lt (by x) (by y)) (count-placed p by x ys)
  where
    both : (a b : Bool) → length (filter p (placed by x ys)) ≡ length (cond a (x ∷ filter p ys) (filter p ys))
        → length (cond b (y ∷ filter p (placed by x ys)) (filter p (placed by x ys))) ≡ length (cond a (x ∷ cond b (y ∷ filter p ys) (filter p ys)) (cond b (y ∷ filter p ys) (filter p ys)))
    both true true same = omega (arith, same)
    both true false same = omega (arith, same)
    both false true same = omega (arith, same)
    both false false same = omega (arith, same)

    go : (b : Bool) → length (filter p (placed by x ys)) ≡ length (filter p (x ∷ ys)) → length (filter p (cond b (x ∷ y ∷ ys) (y ∷ placed by x ys))) ≡ length (filter p (x ∷ y ∷ ys))
    go true same = refl
    go false same = both (p x) (p y) same

pub count-fold : {A : Type 0} (p : A → Bool) (by : A → ℤ) (front xs : List A) → length (filter p (fold (λ l x. placed by x l) front xs)) ≡ length (filter p front) + length (filter p xs)
count-fold p by front [] = omega arith
count-fold {A} p by front (x ∷ xs) = count-fold p by (placed by x front) xs ∙ more (p x) (count-placed p by x front)
  where
    more : (b : Bool) → length (filter p (placed by x front)) ≡ length (cond b (x ∷ filter p front) (filter p front))
        → length (filter p (placed by x front)) + length (filter p xs) ≡ length (filter p front) + length (cond b (x ∷ filter p xs) (filter p xs))
    more true same = omega (arith, same)
    more false same = omega (arith, same)

count-take : {A : Type 0} (p : A → Bool) (n : ℕ) (l : List A) → length (filter p (take n l)) ≤ length (filter p l)
count-take p zero l = omega arith
count-take p (suc n) [] = omega arith
count-take {A} p (suc n) (y ∷ ys) = go (p y) (count-take p n ys)
  where
    go : (b : Bool) → length (filter p (take n ys)) ≤ length (filter p ys) → length (cond b (y ∷ filter p (take n ys)) (filter p (take n ys))) ≤ length (cond b (y ∷ filter p ys) (filter p ys))
    go true fewer = omega (arith, fewer)
    go false fewer = omega (arith, fewer)

pub count-first : {A : Type 0} (p : A → Bool) (n : ℕ) (l : List A) → length (filter p (first n l)) ≤ length (filter p l)
count-first p zero l = omega arith
count-first p (suc n) l = count-take p (suc n) l

-- none of a list in order has a greater number than the last one
pub all_to_last : {A : Type 0} (by : A → ℤ) (n : ℤ) (l : List A) (i : ℕ) (d : A) → IsInOrder by l → length l ≡ i + 1 → n ≡ by (get_or l i d) → length (filter (to by n) l) ≡ length l
all_to_last by n [] i d order long last = absurd (omega (arith, long))
all_to_last by n (y ∷ []) zero d order long last = ap length (kept (to by n) y [] (to_from (by y) n (ap (λ m. int_lt m (by y)) last ∙ same_not_below (by y))))
all_to_last by n (y ∷ []) (suc i) d order long last = absurd (omega (arith, long))
all_to_last by n (y ∷ z ∷ zs) zero d order long last = absurd (omega (arith, long))
all_to_last by n (y ∷ z ∷ zs) (suc i) d order long last =
    let first : int_lt n (by y) ≡ false = ap (λ m. int_lt m (by y)) last ∙ none_below-at by y (z ∷ zs) i d order.0 (omega (arith, long)) in
    ap length (kept (to by n) y (z ∷ zs) (to_from (by y) n first)) ∙ ap suc (all_to_last by n (z ∷ zs) i d order.1 (omega (arith, long)) last)
