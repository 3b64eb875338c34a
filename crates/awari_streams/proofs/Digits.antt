-- How many digits numbers have.
use Rattle.std.proofs.Common.{◌≡◌, ℕ, ◌+◌, ◌<◌, ◌≤◌, ◌/◌, ◌%◌, ◌^◌, [], ◌∷◌, ◌++◌, length, arith, ap, ◌∙◌, length-append}
use Rattle.std.specs.Fmt.{decimal}
use Rattle.std.proofs.lemmas.Fmt.{decimal_digit, decimal_step, length-decimal-le}

pub one_digit : (n : ℕ) → n < 10 → (decimal n ≡ (48 + n) ∷ []) × (length (decimal n) ≡ 1)
one_digit n h = (decimal_digit n h, ap length (decimal_digit n h))

pub more_digits : (n : ℕ) → 10 ≤ n → n < 2 ^ 64 → (decimal n ≡ decimal (n / 10) ++ (48 + n % 10) ∷ []) × (length (decimal n) ≡ length (decimal (n / 10)) + 1)
more_digits n h small =
    let e = decimal_step n h (omega (arith, small)) in
    (e, ap length e ∙ length-append (decimal (n / 10)) ((48 + n % 10) ∷ []))

pub three_digits : (n : ℕ) → n < 256 → length (decimal n) ≤ 3
three_digits n h = length-decimal-le 3 n (omega arith) (omega (arith, h)) (omega (arith, h))

pub five_digits : (n : ℕ) → n < 2 ^ 16 → length (decimal n) ≤ 5
five_digits n h = length-decimal-le 5 n (omega arith) (omega (arith, h)) (omega (arith, h))

pub ten_digits : (n : ℕ) → n < 2 ^ 32 → length (decimal n) ≤ 10
ten_digits n h = length-decimal-le 10 n (omega arith) (omega (arith, h)) (omega (arith, h))

pub twenty_digits : (n : ℕ) → n < 2 ^ 64 → length (decimal n) ≤ 20
twenty_digits n h = length-decimal-le 20 n (omega arith) (omega (arith, h)) h
