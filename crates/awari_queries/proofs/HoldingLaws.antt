-- Sorted lists of which the first ones are held.
use Rattle.std.proofs.Common.{◌≡◌, ℕ, zero, suc, ◌+◌, ◌<◌, Bool, true, false, cond, List, [], ◌∷◌, ◌++◌, length, take, map, get_or, fold, ℤ, int_lt, ◌<ℤ◌, ◌≤ℤ◌, refl, sym, ap, ◌∙◌, arith}
use Rattle.std.proofs.lemmas.Bool.Decides.{nat_tests}
use Rattle.std.proofs.lemmas.Int.{ints}
use Rattle.std.proofs.lemmas.List.{take-map, take-take}
use Rattle.std.proofs.lemmas.List.Sums.{fold-append}
use Rattle.awari_queries.specs.Holding.{first, placed, sorted}

not_less : (a b : ℤ) → int_lt a b ≡ false → b ≤ℤ a
not_less a b is = grind (arith, ints, nat_tests)

pub not_less-from : (a b : ℤ) → b ≤ℤ a → int_lt a b ≡ false
not_less-from a b is = grind (arith, ints, nat_tests)

less : (a b : ℤ) → int_lt a b ≡ true → a <ℤ b
less a b is = grind (arith, ints, nat_tests)

-- what is not below is not below what is not above
not_less-trans : (a b c : ℤ) → int_lt a b ≡ false → int_lt b c ≡ false → int_lt a c ≡ false
not_less-trans a b c first second =
    let h : b ≤ℤ a = not_less a b first in
    let k : c ≤ℤ b = not_less b c second in
    not_less-from a c (omega (arith, ints))

less-not : (a b : ℤ) → int_lt a b ≡ true → int_lt b a ≡ false
less-not a b is =
    let h : a <ℤ b = less a b is in
    not_less-from b a (omega (arith, ints))

-- the first ones with one more are those of the first ones with it
pub take-placed : {A : Type 0} (by : A → ℤ) (x : A) (n : ℕ) (l : List A) → take n (placed by x l) ≡ take n (placed by x (take n l))
take-placed by x zero l = refl
take-placed by x (suc n) [] = refl
take-placed by x (suc n) (y ∷ ys) = go (int_lt (by x) (by y)) (take-placed by x n ys)
  where
    go : (b : Bool) → take n (placed by x ys) ≡ take n (placed by x (take n ys))
        → take (suc n) (cond b (x ∷ y ∷ ys) (y ∷ placed by x ys)) ≡ take (suc n) (cond b (x ∷ y ∷ take n ys) (y ∷ placed by x (take n ys)))
    go true rest = ap (λ t. x ∷ t) (sym (take-take n (suc n) (y ∷ ys) (omega arith)))
    go false rest = ap (λ t. y ∷ t) rest

pub sorted-push : {A : Type 0} (by : A → ℤ) (xs : List A) (x : A) → sorted by (xs ++ x ∷ []) ≡ placed by x (sorted by xs)
sorted-push by xs x = fold-append (λ front y. placed by y front) [] xs (x ∷ [])

pub first-placed : {A : Type 0} (by : A → ℤ) (x : A) (n : ℕ) (l : List A) → first n (placed by x l) ≡ first n (placed by x (first n l))
first-placed by x zero l = refl
first-placed by x (suc n) l = take-placed by x (suc n) l

pub first-first : {A : Type 0} (n : ℕ) (l : List A) → first n (first n l) ≡ first n l
first-first zero l = refl
first-first (suc n) l = take-take (suc n) (suc n) l (omega arith)

-- the first ones of a list with one more are made of the first ones of the list
pub first-push : {A : Type 0} (n : ℕ) (by : A → ℤ) (xs : List A) (x : A) → first n (sorted by (xs ++ x ∷ [])) ≡ first n (placed by x (first n (sorted by xs)))
first-push n by xs x = ap (first n) (sorted-push by xs x) ∙ first-placed by x n (sorted by xs)

-- ---- lists in order

-- none of a list has a number below this one
abbrev pub NoneBelow : {A : Type 0} → (A → ℤ) → A → List A → Type 0
NoneBelow by x [] = Unit {0}
NoneBelow by x (y ∷ ys) = (int_lt (by y) (by x) ≡ false) × NoneBelow by x ys

-- none has a number below that of one before it
abbrev pub IsInOrder : {A : Type 0} → (A → ℤ) → List A → Type 0
IsInOrder by [] = Unit {0}
IsInOrder by (y ∷ ys) = NoneBelow by y ys × IsInOrder by ys

pub none_below-lower : {A : Type 0} (by : A → ℤ) (x y : A) (l : List A) → int_lt (by y) (by x) ≡ false → NoneBelow by y l → NoneBelow by x l
none_below-lower by x y [] order none = tt
none_below-lower by x y (z ∷ zs) order none = (not_less-trans (by z) (by y) (by x) none.0 order, none_below-lower by x y zs order none.1)

none_below-placed : {A : Type 0} (by : A → ℤ) (x y : A) (l : List A) → int_lt (by x) (by y) ≡ false → NoneBelow by y l → NoneBelow by y (placed by x l)
none_below-placed by x y [] order none = (order, tt)
none_below-placed by x y (z ∷ zs) order none = go (int_lt (by x) (by z)) (none_below-placed by x y zs order none.1)
  where
    go : (b : Bool) → NoneBelow by y (placed by x zs) → NoneBelow by y (cond b (x ∷ z ∷ zs) (z ∷ placed by x zs))
    go true rest = (order, none)
    go false rest = (none.0, rest)

pub in_order-placed : {A : Type 0} (by : A → ℤ) (x : A) (l : List A) → IsInOrder by l → IsInOrder by (placed by x l)
in_order-placed by x [] order = (tt, tt)
in_order-placed by x (y ∷ ys) order = go (int_lt (by x) (by y)) refl (in_order-placed by x ys order.1)
  where
    go : (b : Bool) → int_lt (by x) (by y) ≡ b → IsInOrder by (placed by x ys) → IsInOrder by (cond b (x ∷ y ∷ ys) (y ∷ placed by x ys))
    go true is rest =
        let not : int_lt (by y) (by x) ≡ false = less-not (by x) (by y) is in
        ((not, none_below-lower by x y ys not order.0), order)
    go false is rest = (none_below-placed by x y ys is order.0, rest)

in_order-fold : {A : Type 0} (by : A → ℤ) (front xs : List A) → IsInOrder by front → IsInOrder by (fold (λ l x. placed by x l) front xs)
in_order-fold by front [] order = order
in_order-fold by front (x ∷ xs) order = in_order-fold by (placed by x front) xs (in_order-placed by x front order)

none_below-take : {A : Type 0} (by : A → ℤ) (x : A) (n : ℕ) (l : List A) → NoneBelow by x l → NoneBelow by x (take n l)
none_below-take by x zero l none = tt
none_below-take by x (suc n) [] none = tt
none_below-take by x (suc n) (y ∷ ys) none = (none.0, none_below-take by x n ys none.1)

in_order-take : {A : Type 0} (by : A → ℤ) (n : ℕ) (l : List A) → IsInOrder by l → IsInOrder by (take n l)
in_order-take by zero l order = tt
in_order-take by (suc n) [] order = tt
in_order-take by (suc n) (y ∷ ys) order = (none_below-take by y n ys order.0, in_order-take by n ys order.1)

pub none_below-at : {A : Type 0} (by : A → ℤ) (x : A) (l : List A) (i : ℕ) (d : A) → NoneBelow by x l → i < length l → int_lt (by (get_or l i d)) (by x) ≡ false
none_below-at by x [] i d none inside = absurd (omega (arith, inside))
none_below-at by x (y ∷ ys) zero d none inside = none.0
none_below-at by x (y ∷ ys) (suc i) d none inside = none_below-at by x ys i d none.1 (omega (arith, inside))

pub in_order-first : {A : Type 0} (by : A → ℤ) (n : ℕ) (l : List A) → IsInOrder by l → IsInOrder by (first n l)
in_order-first by zero l order = order
in_order-first by (suc n) l order = in_order-take by (suc n) l order

pub in_order-sorted : {A : Type 0} (by : A → ℤ) (xs : List A) → IsInOrder by (sorted by xs)
in_order-sorted by xs = in_order-fold by [] xs tt

placed-map : {A B : Type 0} (f : A → B) (by : B → ℤ) (k : A → ℤ) → ((a : A) → by (f a) ≡ k a) → (x : A) (l : List A) → placed by (f x) (map f l) ≡ map f (placed k x l)
placed-map f by k same x [] = refl
placed-map f by k same x (y ∷ ys) =
    ap (λ b. cond b (f x ∷ f y ∷ map f ys) (f y ∷ placed by (f x) (map f ys))) (ap (λ u. int_lt u (by (f y))) (same x) ∙ ap (int_lt (k x)) (same y))
    ∙ go (int_lt (k x) (k y)) (placed-map f by k same x ys)
  where
    go : (b : Bool) → placed by (f x) (map f ys) ≡ map f (placed k x ys) → cond b (f x ∷ f y ∷ map f ys) (f y ∷ placed by (f x) (map f ys)) ≡ map f (cond b (x ∷ y ∷ ys) (y ∷ placed k x ys))
    go true rest = refl
    go false rest = ap (λ t. f y ∷ t) rest

fold-map : {A B : Type 0} (f : A → B) (by : B → ℤ) (k : A → ℤ) → ((a : A) → by (f a) ≡ k a) → (front xs : List A)
    → fold (λ l x. placed by x l) (map f front) (map f xs) ≡ map f (fold (λ l x. placed k x l) front xs)
fold-map f by k same front [] = refl
fold-map f by k same front (x ∷ xs) = ap (λ l. fold (λ m y. placed by y m) l (map f xs)) (placed-map f by k same x front) ∙ fold-map f by k same (placed k x front) xs

-- what a list is made into is sorted as it is
pub sorted-map : {A B : Type 0} (f : A → B) (by : B → ℤ) (k : A → ℤ) → ((a : A) → by (f a) ≡ k a) → (xs : List A) → sorted by (map f xs) ≡ map f (sorted k xs)
sorted-map f by k same xs = fold-map f by k same [] xs

pub first-map : {A B : Type 0} (f : A → B) (n : ℕ) (xs : List A) → first n (map f xs) ≡ map f (first n xs)
first-map f zero xs = refl
first-map f (suc n) xs = take-map f (suc n) xs

placed-length : {A : Type 0} (by : A → ℤ) (x : A) (l : List A) → length (placed by x l) ≡ length l + 1
placed-length by x [] = refl
placed-length by x (y ∷ ys) = go (int_lt (by x) (by y)) (placed-length by x ys)
  where
    go : (b : Bool) → length (placed by x ys) ≡ length ys + 1 → length (cond b (x ∷ y ∷ ys) (y ∷ placed by x ys)) ≡ length (y ∷ ys) + 1
    go true rest = omega arith
    go false rest = omega (arith, rest)

fold-length : {A : Type 0} (by : A → ℤ) (front xs : List A) → length (fold (λ l x. placed by x l) front xs) ≡ length front + length xs
fold-length by front [] = omega arith
fold-length by front (x ∷ xs) = omega (arith, fold-length by (placed by x front) xs, placed-length by x front)

pub sorted-length : {A : Type 0} (by : A → ℤ) (xs : List A) → length (sorted by xs) ≡ length xs
sorted-length by xs = omega (arith, fold-length by [] xs)
