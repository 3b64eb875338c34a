-- The next board, as a number.
use Rattle.std.proofs.Common.{◌≡◌, ℕ, zero, suc, ◌+◌, ◌*◌, ◌-◌, ◌/◌, ◌%◌, ◌^◌, ◌<◌, ◌≤◌, inl, inr, List, [], ◌∷◌, length, sum, get_or, set, drop, refl, sym, ◌∙◌, ap, subst, arith, get_or-set_same, length-drop}
use Rattle.std.proofs.lemmas.List.{get_or-set_other, get_or-drop, length-set}
use Rattle.std.proofs.Math.Nat.{pow-le-pow_right}
use Rattle.std.specs.Int.{trailing_zeros, w64}
use Rattle.std.proofs.lemmas.Bool.{cases_eq, cases_lt}
use Rattle.std.proofs.lemmas.List.Sums.{get_or-le-sum_by}
use Rattle.std.proofs.lemmas.Nat.{mod-pow-add, pow_pos, mul-le}
use Rattle.std.proofs.lemmas.Nat.Bits.{bit_at-trailing_zeros}
use Rattle.awari_rank.specs.Held.{IsLastHeld}
use Rattle.awari_rank.proofs.Succeeding.{succeeded}
use Rattle.awari_packed.specs.Packed.{packed, unpacked, pits_of, IsPacking, IsPackOf, packed-unpacked}
use Rattle.awari_packed.proofs.Digits.{packed-set, long-pits_of, get_or-pits_of}
use Rattle.awari_rank.proofs.Ranking.{sum-cons}
use Rattle.awari_packed.proofs.Emptying.{without_is}
use Rattle.awari_packed.proofs.Whole.{IsBoard-pits_of}
use Rattle.awari_packed.proofs.Moving.{one_more_of}

drop-unpacked : (j k m n : ℕ) → m ≡ j + k → drop j (unpacked m n) ≡ unpacked k n
unfolding unpacked
drop-unpacked zero k m n e = let same : m ≡ k = omega arith in ap (λ m. unpacked m n) same
drop-unpacked (suc j) k zero n e = absurd (omega arith)
drop-unpacked (suc j) k (suc m) n e = drop-unpacked j k m n (omega arith)

none_packed : (l : List ℕ) → packed l ≡ 0 → sum l ≡ 0
unfolding packed
none_packed [] none = refl
none_packed (x ∷ t) none =
    omega (arith, none_packed t (omega arith), sum-cons x t, mul-le x 1 x (2 ^ (5 * length t)) (omega arith) (pow_pos (5 * length t)))

-- no stones in the last k pits
pub none_right : (n j k : ℕ) → j + k ≡ 12 → n % 2 ^ (5 * k) ≡ 0 → sum (drop j (pits_of n)) ≡ 0
unfolding pits_of
none_right n j k e none =
    ap sum (drop-unpacked j k 12 n (sym e)) ∙ none_packed (unpacked k n) (packed-unpacked k n ∙ none)

zeros_mod : (n m : ℕ) → ((i : ℕ) → i < m → n / 2 ^ i % 2 ≡ 0) → n % 2 ^ m ≡ 0
zeros_mod n zero none = omega arith
zeros_mod n (suc m) none =
    let e : 1 + m ≡ suc m = omega arith in
    omega (arith, ap (λ k. n % 2 ^ k) e, mod-pow-add n 1 m, ap (λ b. b * 2 ^ m) (none m (omega arith)), zeros_mod n m (λ i h. none i (omega arith)))

one_bit : (b p : ℕ) → 0 < p → b * p ≡ 0 → b ≡ 0
one_bit b p some none = omega (arith, mul-le b 1 b p (omega arith) (omega arith))

mod_zeros : (n m i : ℕ) → n % 2 ^ m ≡ 0 → i < m → n / 2 ^ i % 2 ≡ 0
mod_zeros n zero i none here = absurd (omega arith)
mod_zeros n (suc m) i none here =
    let e : 1 + m ≡ suc m = omega arith in
    let split = mod-pow-add n 1 m in
    let whole = ap (λ k. n % 2 ^ k) e in
    elim (cases_lt i m) [
      | inl lt ↦ mod_zeros n m i (omega arith) lt
      | inr ge ↦
          let same : m ≡ i = omega arith in
          ap (λ k. n / 2 ^ k % 2) (sym same) ∙ one_bit (n / 2 ^ m % 2) (2 ^ m) (pow_pos m) (omega arith)
    ]

-- this many bits lie after those of the last pit that holds stones
pub record IsLastPlace (n place : ℕ) : Type 0 where
  pub few : place ≤ 50
  pub last : IsLastHeld (pits_of n) (11 - place / 5)

lowest : (n t : ℕ) → IsPacking n → 0 < n % 2 ^ 55 → n / 2 ^ t % 2 ≡ 1 → ((i : ℕ) → i < t → n / 2 ^ i % 2 ≡ 0) → IsLastPlace n (t / 5 * 5)
lowest n t is some set_there zeros =
    let below : t < 55 = elim (cases_lt t 55) [
      | inl lt ↦ lt
      | inr ge ↦ absurd (omega (arith, zeros_mod n 55 (λ i h. zeros i (omega arith))))
    ] in
    let d : ℕ = t / 5 * 5 / 5 in
    let e : 55 - 5 * (11 - d) ≡ 5 * d = omega arith in
    let after : 11 - d + 1 + d ≡ 12 = omega arith in
    let low : n % 2 ^ (5 * d) ≡ 0 = zeros_mod n (5 * d) (λ i h. zeros i (omega arith)) in
    let digit : get_or (pits_of n) (11 - d) 0 ≡ n / 2 ^ (5 * d) % 32 = get_or-pits_of n (11 - d) (omega arith) ∙ ap (λ m. n / 2 ^ m % 32) e in
    let holds : 0 < n / 2 ^ (5 * d) % 32 = elim (cases_lt 0 (n / 2 ^ (5 * d) % 32)) [
      | inl lt ↦ lt
      | inr ge ↦
          let none : n / 2 ^ (5 * d) % 32 ≡ 0 = omega arith in
          let all : n % 2 ^ (5 + 5 * d) ≡ 0 = omega (arith, mod-pow-add n 5 (5 * d), ap (λ b. b * 2 ^ (5 * d)) none) in
          absurd (omega (arith, mod_zeros n (5 + 5 * d) t all (omega arith)))
    ] in
    record {
      few = omega arith;
      last = record { in_range = omega arith; holds = λ _. omega arith; none_after = none_right n (11 - d + 1) d after low };
    }

pub lowest_of : (n : ℕ) → IsPacking n → 0 < n % 2 ^ 55 → n < 2 ^ 64 → IsLastPlace n (trailing_zeros w64 n / 5 * 5)
lowest_of n is some fits =
    let all = bit_at-trailing_zeros w64 n (omega arith) fits in
    lowest n (trailing_zeros w64 n) is some all.1 all.2

-- ---- the three writes

abbrev pub succeeding : List ℕ → ℕ → List ℕ
succeeding b held = set (set (set b held 0) (held - 1) (get_or (set b held 0) (held - 1) 0 + 1)) 11 (get_or b held 0 - 1)

right_of : (b : List ℕ) (j : ℕ) → j ≤ 11 → 11 < length b → get_or b 11 0 ≤ sum (drop j b)
right_of b j left here =
    let inside : 11 - j < length (drop j b) = omega (arith, length-drop j b) in
    let at : j + (11 - j) ≡ 11 = omega arith in
    omega (arith, get_or-le-sum_by (λ x. x) (drop j b) (11 - j) 0 inside, get_or-drop j b (11 - j) 0, ap (λ i. get_or b i 0) at)

last_is_empty : (b : List ℕ) (held : ℕ) → length b ≡ 12 → 0 < held → IsLastHeld b held → get_or (set (set b held 0) (held - 1) (get_or (set b held 0) (held - 1) 0 + 1)) 11 0 ≡ 0
last_is_empty b held long some last =
    let in_range = last.in_range in
    get_or-set_other (set b held 0) (held - 1) 11 _ 0 (λ e. omega arith)
    ∙ elim (cases_eq held 11) [
      | inl e ↦ ap (λ i. get_or (set b i 0) 11 0) e ∙ get_or-set_same b 11 0 0 (omega arith)
      | inr ne ↦
          get_or-set_other b held 11 0 0 (λ e. ne (sym e))
          ∙ omega (arith, last.none_after, right_of b (held + 1) (omega arith) (omega arith))
    ]

pub next_is : (n held s left w : ℕ) → IsPacking n → IsLastHeld (pits_of n) held → 0 < held → s ≡ get_or (pits_of n) held 0 → IsPackOf left (set (pits_of n) held 0) → w ≡ s - 1 → IsPackOf (left + 1 * 2 ^ (60 - 5 * held) % 18446744073709551616 + w) (succeeding (pits_of n) held)
next_is n held s left w is last some held_is emptied rest =
    let b : List ℕ = pits_of n in
    let one : List ℕ = set b held 0 in
    let g : ℕ = get_or one (held - 1) 0 in
    let two : List ℕ = set one (held - 1) (g + 1) in
    let in_range = last.in_range in
    let long_one : length one ≡ 12 = length-set b held 0 ∙ long-pits_of n in
    let long_two : length two ≡ 12 = length-set one (held - 1) (g + 1) ∙ long_one in
    let next = succeeded refl (IsBoard-pits_of n is) last some in
    let e : 5 * (12 - held) ≡ 60 - 5 * held = omega arith in
    let first = packed-set one (held - 1) (12 - held) (g + 1) (omega arith) in
    let second = packed-set two 11 0 (get_or b held 0 - 1) (omega arith) in
    record {
      long = length-set two 11 (get_or b held 0 - 1) ∙ long_two;
      few = omega (arith, next.stones, is.few);
      number =
          omega (
            arith,
            emptied.number,
            first,
            second,
            one_more_of g (2 ^ (5 * (12 - held))),
            ap (λ m. 2 ^ m) e,
            last_is_empty b held (long-pits_of n) some last,
            pow-le-pow_right {n = 2} (omega arith) {i = 60 - 5 * held} {j = 60} (omega arith),
            held_is,
            rest,
          );
    }

-- the last pit that holds stones is at the bits that lie before this many
held_at : (n place : ℕ) → place % 5 ≡ 0 → place ≤ 50 → n / 2 ^ place % 32 ≡ get_or (pits_of n) (11 - place / 5) 0
held_at n place fives few =
    let at : place ≡ 55 - 5 * (11 - place / 5) = omega arith in
    ap (λ m. n / 2 ^ m % 32) at ∙ sym (get_or-pits_of n (11 - place / 5) (omega arith))

pub some_held : (n place : ℕ) → place % 5 ≡ 0 → place ≤ 50 → IsLastHeld (pits_of n) (11 - place / 5) → 1 ≤ n / 2 ^ place % 32
some_held n place fives few last = omega (arith, held_at n place fives few, last.holds (omega arith))

pub next_at : (n place : ℕ) → IsPacking n → place % 5 ≡ 0 → place ≤ 50 → IsLastHeld (pits_of n) (11 - place / 5)
    → IsPackOf (n - n / 2 ^ place % 32 * 2 ^ place % 18446744073709551616 + 1 * 2 ^ (place + 5) % 18446744073709551616 + (n / 2 ^ place % 32 - 1)) (succeeding (pits_of n) (11 - place / 5))
next_at n place is fives few last =
    let held : ℕ = 11 - place / 5 in
    let at : 55 - 5 * held ≡ place = omega arith in
    let above : 60 - 5 * held ≡ place + 5 = omega arith in
    let s : ℕ = n / 2 ^ place % 32 in
    let emptied = subst (λ m. IsPackOf (n - s * 2 ^ m % 18446744073709551616) (set (pits_of n) held 0)) at (without_is n held s s is (omega arith) (held_at n place fives few) refl) in
    subst (λ m. IsPackOf (n - s * 2 ^ place % 18446744073709551616 + 1 * 2 ^ m % 18446744073709551616 + (s - 1)) (succeeding (pits_of n) held)) above
    (next_is n held s (n - s * 2 ^ place % 18446744073709551616) (s - 1) is last (omega arith) (held_at n place fives few) emptied refl)
