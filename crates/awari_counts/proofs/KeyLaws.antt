-- Things counted by a key, one after the other, and the sum of these numbers.
use Rattle.std.proofs.Common.{◌≡◌, ℕ, zero, suc, ◌+◌, ◌==◌, ◌&&◌, ◌<◌, ◌≤◌, Bool, true, false, cond, List, [], ◌∷◌, ◌++◌, length, get_or, set, count_by, fold, max, All, Some, slice_get, refl, sym, ◌∙◌, ap, inl, inr, arith}
use Rattle.std.proofs.lemmas.Bool.{cases_lt}
use Rattle.std.proofs.lemmas.Bool.Decides.{nat_tests}
use Rattle.std.proofs.lemmas.List.{get_or-set_other, get_or-set_same}
use Rattle.std.proofs.lemmas.List.Elements.{All-head, All-tail, All-weaker}
use Rattle.std.proofs.lemmas.List.Sums.{sum_by-append, sum_by-cons}
use Rattle.awari_rank.proofs.Counting.{total_same}
use Rattle.awari_rank.specs.Tuples.{total}
use Rattle.awari_table.specs.declared.images.Entry.{Entry}

-- ---- one more

pub get_or-set-cases : (xs : List ℕ) (j k v : ℕ) → j < length xs → get_or (set xs j v) k 0 ≡ cond (j == k) v (get_or xs k 0)
get_or-set-cases xs j k v inside = go (j == k) refl
  where
    go : (b : Bool) → (j == k) ≡ b → get_or (set xs j v) k 0 ≡ cond b v (get_or xs k 0)
    go true e =
        let same : k ≡ j = grind (arith, nat_tests) in
        ap (λ i. get_or (set xs j v) i 0) same ∙ get_or-set_same xs j v 0 inside
    go false e = get_or-set_other xs j k v 0 (λ same. grind (arith, nat_tests))

count_by-push : {A : Type 0} (p : A → Bool) (xs : List A) (x : A) → count_by p (xs ++ x ∷ []) ≡ count_by p xs + cond (p x) 1 0
count_by-push p xs x = omega (arith, sum_by-append (λ y. cond (p y) 1 0) xs (x ∷ []), sum_by-cons (λ y. cond (p y) 1 0) x [])

-- what stands at key k once something of key j is counted, if the test is whether k is its key
pub counted-push : {A : Type 0} (p : A → Bool) (xs : List A) (x : A) (counts next : List ℕ) (j k : ℕ) → j < length counts → next ≡ set counts j (get_or counts j 0 + 1) → p x ≡ (j == k)
    → get_or counts k 0 ≡ count_by p xs → get_or next k 0 ≡ count_by p (xs ++ x ∷ [])
counted-push p xs x counts next j k inside is key before =
    ap (λ ns. get_or ns k 0) is ∙ get_or-set-cases counts j k (get_or counts j 0 + 1) inside ∙ add (j == k) refl ∙ ap (λ b. count_by p xs + cond b 1 0) (sym key) ∙ sym (count_by-push p xs x)
  where
    add : (b : Bool) → (j == k) ≡ b → cond b (get_or counts j 0 + 1) (get_or counts k 0) ≡ count_by p xs + cond b 1 0
    add true same =
        let equal : j ≡ k = grind (arith, nat_tests) in
        ap (λ i. get_or counts i 0 + 1) equal ∙ ap (λ m. m + 1) before
    add false same = omega (arith, before)

abbrev pub one_if : Bool → ℕ
one_if b = cond b 1 0

-- ---- the greatest distance

above_start : (g : Entry → ℕ) (xs : List Entry) (a : ℕ) → a ≤ fold (λ most x. max most (g x)) a xs
above_start g [] a = omega arith
above_start g (x ∷ xs) a = omega (arith, above_start g xs (max a (g x)))

pub above_each : (g : Entry → ℕ) (xs : List Entry) (a k : ℕ) (e : Entry) → slice_get xs k ≡ Some e → g e ≤ fold (λ most x. max most (g x)) a xs
above_each g [] a k e none = cc
above_each g (x ∷ xs) a zero e here =
    let same : x ≡ e = cc in
    omega (arith, above_start g xs (max a (g x)), ap g same)
above_each g (x ∷ xs) a (suc k) e here = above_each g xs (max a (g x)) k e here

most_above : (g : Entry → ℕ) (xs : List Entry) (a m : ℕ) → a ≤ m → All (λ x. g x ≤ m) xs → fold (λ most x. max most (g x)) a xs ≤ m
most_above g [] a m low each = low
most_above g (x ∷ xs) a m low each =
    let here : g x ≤ m = All-head (λ y. g y ≤ m) x xs each in
    most_above g xs (max a (g x)) m (omega (arith, low, here)) (All-tail (λ y. g y ≤ m) x xs each)

-- one of them is this great
one_found : (g : Entry → ℕ) (xs : List Entry) (a m : ℕ) → 0 < count_by (λ x. g x == m) xs → m ≤ fold (λ most x. max most (g x)) a xs
one_found g [] a m some = absurd (omega (arith, some))
one_found g (x ∷ xs) a m some = go (g x == m) refl (λ later. one_found g xs (max a (g x)) m later)
  where
    go : (b : Bool) → (g x == m) ≡ b → (0 < count_by (λ y. g y == m) xs → m ≤ fold (λ most y. max most (g y)) (max a (g x)) xs) → m ≤ fold (λ most y. max most (g y)) (max a (g x)) xs
    go true same next =
        let equal : g x ≡ m = grind (arith, nat_tests) in
        omega (arith, above_start g xs (max a (g x)), equal)
    go false other next = next (omega (arith, some, sum_by-cons (λ y. one_if (g y == m)) x xs, ap one_if other))

-- the greatest is one that some have and that none is above
pub greatest_is : (g : Entry → ℕ) (xs : List Entry) (m : ℕ) → All (λ x. g x ≤ m) xs → 0 < count_by (λ x. g x == m) xs → m ≡ fold (λ most x. max most (g x)) 0 xs
greatest_is g xs m each some = omega (arith, most_above g xs 0 m (omega arith) each, one_found g xs 0 m some)

-- ---- sums

total-plus : (f g : ℕ → ℕ) (n : ℕ) → total (λ k. f k + g k) n ≡ total f n + total g n
unfolding total
total-plus f g zero = refl
total-plus f g (suc n) = omega (arith, total-plus f g n)

pub total-zeros : (f : ℕ → ℕ) (n : ℕ) → ((k : ℕ) → k < n → f k ≡ 0) → total f n ≡ 0
unfolding total
total-zeros f zero zeros = refl
total-zeros f (suc n) zeros = omega (arith, total-zeros f n (λ k below. zeros k (omega (arith, below))), zeros n (omega arith))

pub one-key : (j n : ℕ) → j < n → total (λ k. one_if (j == k)) n ≡ 1
unfolding total
one-key j zero below = absurd (omega (arith, below))
one-key j (suc n) below = elim (cases_lt j n) [
  | inl less ↦
      let other : (j == n) ≡ false = grind (arith, nat_tests) in
      omega (arith, one-key j n less, ap one_if other)
  | inr least ↦
      let same : (j == n) ≡ true = grind (arith, nat_tests) in
      omega (arith, total-zeros (λ k. one_if (j == k)) n (λ k lower. let other : (j == k) ≡ false = grind (arith, nat_tests) in ap one_if other), ap one_if same)
]

-- a test holds of this at one key below n
pub record HasKey {A : Type 0} (test : ℕ → A → Bool) (n : ℕ) (x : A) : Type 0 where
  pub key : ℕ
  pub below : key < n
  pub is : (k : ℕ) → test k x ≡ (key == k)

-- one test at all keys
one-each : {A : Type 0} (test : ℕ → A → Bool) (n : ℕ) (x : A) → HasKey test n x → total (λ k. one_if (test k x)) n ≡ 1
one-each test n x keyed = total_same (λ k. one_if (test k x)) (λ k. one_if (keyed.key == k)) n (λ k below. ap one_if (keyed.is k)) ∙ one-key keyed.key n keyed.below

both-each : {A : Type 0} (t : Bool) (test : ℕ → A → Bool) (n : ℕ) (x : A) → HasKey test n x → total (λ k. one_if (t && test k x)) n ≡ one_if t
both-each true test n x keyed = one-each test n x keyed
both-each false test n x keyed = total-zeros (λ k. one_if (false && test k x)) n (λ k below. refl)

each-both : {A : Type 0} (t : Bool) (test : ℕ → A → Bool) (n : ℕ) (x : A) → HasKey test n x → total (λ k. one_if (test k x && t)) n ≡ one_if t
each-both true test n x keyed = total_same (λ k. one_if (test k x && true)) (λ k. one_if (test k x)) n (λ k below. ap one_if (and-true (test k x))) ∙ one-each test n x keyed
  where
    and-true : (b : Bool) → (b && true) ≡ b
    and-true true = refl
    and-true false = refl
each-both false test n x keyed = total-zeros (λ k. one_if (test k x && false)) n (λ k below. ap one_if (and-false (test k x)))
  where
    and-false : (b : Bool) → (b && false) ≡ false
    and-false true = refl
    and-false false = refl

-- those that pass, where each passes as one of n tests does
pub total-each : {A : Type 0} (p : A → Bool) (tests : ℕ → A → Bool) (n : ℕ) (xs : List A) → All (λ x. total (λ k. one_if (tests k x)) n ≡ one_if (p x)) xs → total (λ k. count_by (tests k) xs) n ≡ count_by p xs
total-each p tests n [] each = total-zeros (λ k. count_by (tests k) []) n (λ k below. refl)
total-each p tests n (x ∷ xs) each =
    let one : total (λ k. one_if (tests k x)) n ≡ one_if (p x) = All-head (λ y. total (λ k. one_if (tests k y)) n ≡ one_if (p y)) x xs each in
    let rest = total-each p tests n xs (All-tail (λ y. total (λ k. one_if (tests k y)) n ≡ one_if (p y)) x xs each) in
    let split : total (λ k. count_by (tests k) (x ∷ xs)) n ≡ total (λ k. one_if (tests k x)) n + total (λ k. count_by (tests k) xs) n =
    total_same (λ k. count_by (tests k) (x ∷ xs)) (λ k. one_if (tests k x) + count_by (tests k) xs) n (λ k below. sum_by-cons (λ y. one_if (tests k y)) x xs)
    ∙ total-plus (λ k. one_if (tests k x)) (λ k. count_by (tests k) xs) n in
    omega (arith, split, one, rest, sum_by-cons (λ y. one_if (p y)) x xs)

-- those that pass, by a test that each passes at one key
pub total-both : {A : Type 0} (p : A → Bool) (test : ℕ → A → Bool) (n : ℕ) (xs : List A) → All (HasKey test n) xs → total (λ k. count_by (λ x. p x && test k x) xs) n ≡ count_by p xs
total-both p test n xs keyed = total-each p (λ k x. p x && test k x) n xs (All-weaker (HasKey test n) (λ x. total (λ k. one_if (p x && test k x)) n ≡ one_if (p x)) (λ x has. both-each (p x) test n x has) xs keyed)

pub total-swapped : {A : Type 0} (p : A → Bool) (test : ℕ → A → Bool) (n : ℕ) (xs : List A) → All (HasKey test n) xs → total (λ k. count_by (λ x. test k x && p x) xs) n ≡ count_by p xs
total-swapped p test n xs keyed = total-each p (λ k x. test k x && p x) n xs (All-weaker (HasKey test n) (λ x. total (λ k. one_if (test k x && p x)) n ≡ one_if (p x)) (λ x has. each-both (p x) test n x has) xs keyed)

-- all of them
all-counted : {A : Type 0} (xs : List A) → count_by (λ x. true) xs ≡ length xs
all-counted [] = refl
all-counted (x ∷ xs) = omega (arith, all-counted xs, sum_by-cons (λ y. one_if true) x xs)

pub total-counts : {A : Type 0} (test : ℕ → A → Bool) (n : ℕ) (xs : List A) → All (HasKey test n) xs → total (λ k. count_by (test k) xs) n ≡ length xs
total-counts test n xs keyed = total-both (λ x. true) test n xs keyed ∙ all-counted xs
