-- A stone of a number moved from one pit to another.
use Rattle.std.proofs.Common.{◌≡◌, ◌≢◌, ℕ, ◌+◌, ◌*◌, ◌-◌, ◌%◌, ◌^◌, ◌<◌, ◌≤◌, List, length, sum, get_or, set, ◌∙◌, ap, arith}
use Rattle.std.proofs.Math.Nat.{pow-le-pow_right}
use Rattle.std.proofs.lemmas.Grind.{common_steps}
use Rattle.std.proofs.lemmas.List.{get_or-set_other, length-set}
use Rattle.awari_packed.specs.Packed.{packed, pits_of, IsPacking, IsPackOf, packed-pits_of}
use Rattle.awari_packed.proofs.Digits.{packed-set, long-pits_of}

abbrev pub stone_moved : List ℕ → ℕ → ℕ → List ℕ
stone_moved b x y = set (set b x (get_or b x 0 - 1)) y (get_or b y 0 + 1)

pub one_more_of : (g p : ℕ) → (g + 1) * p ≡ g * p + p
one_more_of g p = grind arith

sum_moved : (b : List ℕ) (x y : ℕ) → x < length b → y < length b → y ≢ x → 0 < get_or b x 0 → sum (stone_moved b x y) ≡ sum b
sum_moved b x y here there two held =
    let one : List ℕ = set b x (get_or b x 0 - 1) in
    let same : get_or one y 0 ≡ get_or b y 0 = get_or-set_other b x y _ 0 two in
    let first : sum one + 1 ≡ sum b = grind (arith, common_steps) in
    let second : sum (set one y (get_or b y 0 + 1)) ≡ sum one + 1 = grind (arith, common_steps) in
    omega arith

-- what is taken away, what is added, and what comes of it
pub record Moved (n x y : ℕ) : Type 0 where
  pub taken : 1 * 2 ^ (55 - 5 * x) % 18446744073709551616 ≤ n
  pub fits : n - 1 * 2 ^ (55 - 5 * x) % 18446744073709551616 + 1 * 2 ^ (55 - 5 * y) % 18446744073709551616 < 18446744073709551616
  pub is : IsPackOf (n - 1 * 2 ^ (55 - 5 * x) % 18446744073709551616 + 1 * 2 ^ (55 - 5 * y) % 18446744073709551616) (stone_moved (pits_of n) x y)

pub stone_moves : (n x y : ℕ) → IsPacking n → x < 12 → y < 12 → y ≢ x → 0 < get_or (pits_of n) x 0 → Moved n x y
stone_moves n x y is here there two held =
    let b : List ℕ = pits_of n in
    let g : ℕ = get_or b x 0 in
    let h : ℕ = get_or b y 0 in
    let one : List ℕ = set b x (g - 1) in
    let long : length b ≡ 12 = long-pits_of n in
    let long_one : length one ≡ 12 = length-set b x (g - 1) ∙ long in
    let same : get_or one y 0 ≡ h = get_or-set_other b x y (g - 1) 0 two in
    let p : ℕ = 2 ^ (5 * (11 - x)) in
    let q : ℕ = 2 ^ (5 * (11 - y)) in
    let ep : 5 * (11 - x) ≡ 55 - 5 * x = omega arith in
    let eq : 5 * (11 - y) ≡ 55 - 5 * y = omega arith in
    let less : g - 1 + 1 ≡ g = omega arith in
    let first : packed one + p ≡ n = omega (arith, packed-set b x (11 - x) (g - 1) (omega (arith, long)), one_more_of (g - 1) p, ap (λ k. k * p) less, packed-pits_of n is.top) in
    let second : packed (stone_moved b x y) ≡ packed one + q = omega (arith, packed-set one y (11 - y) (h + 1) (omega (arith, long_one)), one_more_of h q, ap (λ k. k * q) same) in
    let top_p : 2 ^ (55 - 5 * x) ≤ 2 ^ 55 = pow-le-pow_right {n = 2} (omega arith) {i = 55 - 5 * x} {j = 55} (omega arith) in
    let top_q : 2 ^ (55 - 5 * y) ≤ 2 ^ 55 = pow-le-pow_right {n = 2} (omega arith) {i = 55 - 5 * y} {j = 55} (omega arith) in
    let at_p : p ≡ 2 ^ (55 - 5 * x) = ap (λ m. 2 ^ m) ep in
    let at_q : q ≡ 2 ^ (55 - 5 * y) = ap (λ m. 2 ^ m) eq in
    record {
      taken = omega arith;
      fits = omega (arith, is.top);
      is = record {
        long = length-set one y (h + 1) ∙ long_one;
        few = omega (arith, sum_moved b x y (omega arith) (omega arith) two held, is.few);
        number = omega arith;
      };
    }
