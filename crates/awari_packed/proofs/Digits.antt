-- Numbers by their digits in base 32.
use Rattle.std.proofs.Common.{◌≡◌, ℕ, zero, suc, ◌+◌, ◌*◌, ◌/◌, ◌%◌, ◌^◌, ◌-◌, ◌<◌, List, [], ◌∷◌, ◌++◌, length, sum, get_or, set, map, refl, sym, ◌∙◌, ap, arith, length-append}
use Rattle.std.specs.List.{range_with_len}
use Rattle.std.proofs.lemmas.List.{length-set, length-map}
use Rattle.std.proofs.lemmas.List.FromFn.{length-range_with_len}
use Rattle.std.proofs.lemmas.List.Sums.{sum_by-cons}
use Rattle.std.proofs.lemmas.Nat.{pow-add, mul-le, shr_high, mod-pow-add, shr-shr}
use Rattle.awari_packed.specs.Packed.{packed, unpacked, pits_of, IsPacking, IsPackOf, length-unpacked, packed-pits_of}
use Rattle.awari_rank.proofs.Ranking.{sum-cons}

-- each is a digit
abbrev pub Small : List ℕ → Type 0
Small [] = Unit {0}
Small (x ∷ t) = (x < 32) × Small t

pub small-few : (l : List ℕ) → sum l < 32 → Small l
small-few [] few = tt
small-few (x ∷ t) few = let all = sum-cons x t in (omega arith, small-few t (omega arith))

pub place-suc : (k : ℕ) → 2 ^ (5 * suc k) ≡ 32 * 2 ^ (5 * k)
place-suc k = let e : 5 * suc k ≡ 5 + 5 * k = omega arith in ap (λ m. 2 ^ m) e ∙ pow-add 2 5 (5 * k)

pub packed_below : (l : List ℕ) → Small l → packed l < 2 ^ (5 * length l)
unfolding packed
packed_below [] small = omega arith
packed_below (x ∷ t) small =
    let first : x < 32 = small.0 in
    omega (arith, packed_below t small.1, place-suc (length t), mul-le x (2 ^ (5 * length t)) 31 (2 ^ (5 * length t)) (omega arith) (omega arith))

head_place : (h x p q : ℕ) → q ≡ 32 * p → h * q + x * p ≡ (h * 32 + x) * p
head_place h x p q e = ap (λ q. h * q + x * p) e ∙ grind arith

-- whatever lies above them, the last digits are these
pub unpacked-packed : (l : List ℕ) (h : ℕ) → Small l → unpacked (length l) (h * 2 ^ (5 * length l) + packed l) ≡ l
unfolding packed unpacked
unpacked-packed [] h small = refl
unpacked-packed (x ∷ t) h small =
    let p : ℕ = 2 ^ (5 * length t) in
    let whole : h * 2 ^ (5 * suc (length t)) + (x * p + packed t) ≡ (h * 32 + x) * p + packed t
    = omega (arith, head_place h x p (2 ^ (5 * suc (length t))) (place-suc (length t)))
    in
    let high : ((h * 32 + x) * p + packed t) / p ≡ h * 32 + x = shr_high (h * 32 + x) (5 * length t) (packed t) (packed_below t small.1) in
    let fits : x < 32 = small.0 in
    let first : (h * 32 + x) % 32 ≡ x = omega arith in
    ap (λ n. (n / p % 32) ∷ unpacked (length t) n) whole
    ∙ ap (λ y. (y % 32) ∷ unpacked (length t) ((h * 32 + x) * p + packed t)) high
    ∙ ap (λ y. y ∷ unpacked (length t) ((h * 32 + x) * p + packed t)) first
    ∙ ap (λ u. x ∷ u) (unpacked-packed t (h * 32 + x) small.1)

pub packed-append : (a b : List ℕ) → packed (a ++ b) ≡ packed a * 2 ^ (5 * length b) + packed b
unfolding packed
packed-append [] b = omega arith
packed-append (x ∷ a) b =
    let p : ℕ = 2 ^ (5 * length a) in
    let q : ℕ = 2 ^ (5 * length b) in
    let e : 5 * length (a ++ b) ≡ 5 * length a + 5 * length b = omega (arith, length-append a b) in
    let both : 2 ^ (5 * length (a ++ b)) ≡ p * q = ap (λ m. 2 ^ m) e ∙ pow-add 2 (5 * length a) (5 * length b) in
    let spread : x * (p * q) + (packed a * q + packed b) ≡ (x * p + packed a) * q + packed b = grind arith in
    ap (λ m. x * m + packed (a ++ b)) both ∙ ap (λ m. x * (p * q) + m) (packed-append a b) ∙ spread

pub get_or-unpacked : (k n i j : ℕ) → i + 1 + j ≡ k → get_or (unpacked k n) i 0 ≡ n / 2 ^ (5 * j) % 32
unfolding unpacked
get_or-unpacked zero n i j e = absurd (omega arith)
get_or-unpacked (suc k) n zero j e = let same : k ≡ j = omega arith in ap (λ m. n / 2 ^ (5 * m) % 32) same
get_or-unpacked (suc k) n (suc i) j e = get_or-unpacked k n i j (omega arith)

pub packed-set : (l : List ℕ) (i j v : ℕ) → i + 1 + j ≡ length l → packed (set l i v) + get_or l i 0 * 2 ^ (5 * j) ≡ packed l + v * 2 ^ (5 * j)
unfolding packed
packed-set [] i j v e = absurd (omega arith)
packed-set (x ∷ t) zero j v e = let same : length t ≡ j = omega arith in omega (arith, ap (λ m. v * 2 ^ (5 * m)) same, ap (λ m. x * 2 ^ (5 * m)) same)
packed-set (x ∷ t) (suc i) j v e =
    omega (arith, packed-set t i j v (omega arith), ap (λ m. x * 2 ^ (5 * m)) (length-set t i v))

spread_plus : (x y p m n : ℕ) → (x + y) * p + (m + n) ≡ x * p + m + (y * p + n)
spread_plus x y p m n = grind arith

long_map : (f : ℕ → ℕ) (a k : ℕ) → length (map f (range_with_len a k)) ≡ k
long_map f a k = length-map (range_with_len a k) f ∙ length-range_with_len a k

pub packed-plus : (f g : ℕ → ℕ) (a k : ℕ) → packed (map (λ i. f i + g i) (range_with_len a k)) ≡ packed (map f (range_with_len a k)) + packed (map g (range_with_len a k))
unfolding packed
packed-plus f g a zero = refl
packed-plus f g a (suc k) =
    omega (
      arith,
      packed-plus f g (a + 1) k,
      ap (λ m. (f a + g a) * 2 ^ (5 * m)) (long_map (λ i. f i + g i) (a + 1) k),
      ap (λ m. f a * 2 ^ (5 * m)) (long_map f (a + 1) k),
      ap (λ m. g a * 2 ^ (5 * m)) (long_map g (a + 1) k),
      spread_plus (f a) (g a) (2 ^ (5 * k)) (packed (map f (range_with_len (a + 1) k))) (packed (map g (range_with_len (a + 1) k))),
    )

-- two digits at once
pub two_digits : (n j : ℕ) → n / 2 ^ (5 * j) % 1024 ≡ (n / 2 ^ (5 * (j + 1)) % 32) * 32 + n / 2 ^ (5 * j) % 32
two_digits n j =
    let e : 5 * j + 5 ≡ 5 * (j + 1) = omega arith in
    mod-pow-add (n / 2 ^ (5 * j)) 5 5
    ∙ ap (λ m. (m % 32) * 32 + n / 2 ^ (5 * j) % 32) (shr-shr n (5 * j) 5 ∙ ap (λ m. n / 2 ^ m) e)

-- ---- boards

pub pits-from_IsPackOf : {n : ℕ} {b : List ℕ} → IsPackOf n b → pits_of n ≡ b
unfolding pits_of
pits-from_IsPackOf {n} {b} is =
    let small = small-few b (omega (arith, is.few)) in
    let none : packed b ≡ 0 * 2 ^ (5 * length b) + packed b = omega arith in
    ap (unpacked 12) (is.number ∙ none)
    ∙ ap (λ k. unpacked k (0 * 2 ^ (5 * length b) + packed b)) (sym is.long)
    ∙ unpacked-packed b 0 small

pub IsPacking-from_IsPackOf : {n : ℕ} {b : List ℕ} → IsPackOf n b → IsPacking n
IsPacking-from_IsPackOf {n} {b} is = record {
  top = omega (arith, is.number, packed_below b (small-few b (omega (arith, is.few))), ap (λ k. 2 ^ (5 * k)) is.long);
  few = omega (arith, ap sum (pits-from_IsPackOf is), is.few);
}

pub long-pits_of : (n : ℕ) → length (pits_of n) ≡ 12
unfolding pits_of
long-pits_of n = length-unpacked 12 n

pub get_or-pits_of : (n i : ℕ) → i < 12 → get_or (pits_of n) i 0 ≡ n / 2 ^ (55 - 5 * i) % 32
unfolding pits_of
get_or-pits_of n i here =
    let e : 5 * (11 - i) ≡ 55 - 5 * i = omega arith in
    get_or-unpacked 12 n i (11 - i) (omega arith) ∙ ap (λ m. n / 2 ^ m % 32) e

-- the stones of pit i at their place
pub placed : (n i : ℕ) → i < 12 → IsPacking n → packed (set (pits_of n) i 0) + get_or (pits_of n) i 0 * 2 ^ (55 - 5 * i) ≡ n
placed n i here is =
    let e : 5 * (11 - i) ≡ 55 - 5 * i = omega arith in
    omega (
      arith,
      packed-set (pits_of n) i (11 - i) 0 (omega (arith, long-pits_of n)),
      ap (λ m. get_or (pits_of n) i 0 * 2 ^ m) e,
      packed-pits_of n is.top,
    )
