-- Sets of own pits.
use Rattle.std.proofs.Common.{◌≡◌, ℕ, zero, suc, ◌+◌, ◌-◌, ◌*◌, ◌^◌, ◌<◌, ◌≤◌, ◌==◌, ◌⊎◌, ◌↔◌, inl, inr, Bool, true, false, not, ◌&&◌, ◌||◌, Some, None, max, min, refl, sym, ap, subst, ◌∙◌, arith, bit_or, bit_and, w8, eqb-true}
use Rattle.std.proofs.lemmas.Bool.{cases_eq, eq-eqb, false≢true, ne_eqb, or_cases, or_left, or_right}
use Rattle.std.proofs.lemmas.Bool.Decides.{nat_tests}
use Rattle.std.proofs.lemmas.Nat.{and_le_l, pow_below, pow_pos}
use Rattle.std.proofs.lemmas.Nat.Bits.{and_pow, bit_at_and, bit_at_not, bit_at_or, bit_at-lt, bit_at-pow_other, bit_at-pow_same, bit_at-zero, bit_at-trailing_zeros, same_from_bits_below}
use Rattle.std.specs.Int.{bit_at, trailing_zeros}
use Rattle.std.specs.Int.Count.{trailing_of_zero}
use Rattle.awari_block.specs.Pits.{has_pit, with_pit, without_pit, IsLowestIn}

-- a set has a pit where it has its bit
pub has_pit-bit : (pits x : ℕ) → has_pit pits x ≡ (bit_at pits x == 1)
has_pit-bit pits x = at (bit_at pits x) (2 ^ x) (bit_and pits (2 ^ x)) (and_pow pits x) (bit_at-lt pits x) (pow_pos x)
  where
    at : (b k n : ℕ) → n ≡ b * k → b < 2 → 0 < k → not (n == 0) ≡ (b == 1)
    at zero k n e low some = let none : n ≡ 0 = e ∙ omega arith in by n none
      where
        by : (n : ℕ) → n ≡ 0 → not (n == 0) ≡ (zero == 1)
        by n none = grind (arith, nat_tests)
    at (suc zero) k n e low some = let same : n ≡ k = e ∙ omega arith in by n (omega (arith, same, some))
      where
        by : (n : ℕ) → 0 < n → not (n == 0) ≡ (suc zero == 1)
        by n some = grind (arith, nat_tests)
    at (suc (suc b)) k n e low some = absurd (omega (arith, low))

-- no pits
pub has_pit-none : (x : ℕ) → has_pit 0 x ≡ false
has_pit-none x = has_pit-bit 0 x ∙ ap (λ b. b == 1) (bit_at-zero x)

-- one pit
pub has_pit-alone : (x y : ℕ) → has_pit (2 ^ x) y ≡ (x == y)
has_pit-alone x y = has_pit-bit (2 ^ x) y ∙ elim (cases_eq y x) [
  | inl same ↦ subst (λ n. (bit_at (2 ^ x) n == 1) ≡ (x == n)) (sym same) (ap (λ b. b == 1) (bit_at-pow_same x) ∙ sym (eq-eqb x x refl))
  | inr apart ↦ ap (λ b. b == 1) (bit_at-pow_other x y apart) ∙ sym (ne_eqb x y (λ e. apart (sym e)))
]

-- the pits of two sets
pub has_pit-both : (a b x : ℕ) → has_pit (bit_or a b) x ≡ (has_pit a x || has_pit b x)
has_pit-both a b x =
    has_pit-bit (bit_or a b) x
    ∙ at (bit_at a x) (bit_at b x) (bit_at (bit_or a b) x) (bit_at_or a b x) (bit_at-lt a x) (bit_at-lt b x)
    ∙ ap (λ c. c || (bit_at b x == 1)) (sym (has_pit-bit a x)) ∙ ap (λ c. has_pit a x || c) (sym (has_pit-bit b x))
  where
    at : (i j k : ℕ) → k ≡ max i j → i < 2 → j < 2 → (k == 1) ≡ ((i == 1) || (j == 1))
    at i j k e low below = grind (arith, nat_tests)

-- a pit is among these and x where it is x or among these
pub has_pit-with : (pits x y : ℕ) → has_pit (with_pit pits x) y ≡ ((x == y) || has_pit pits y)
has_pit-with pits x y = has_pit-both pits (2 ^ x) y ∙ ap (λ b. has_pit pits y || b) (has_pit-alone x y) ∙ swap (has_pit pits y) (x == y)
  where
    swap : (a b : Bool) → (a || b) ≡ (b || a)
    swap a b = grind arith

-- all pits but one
pub has_pit-without : (pits x y : ℕ) → x < 6 → y < 6 → has_pit (without_pit pits x) y ≡ (has_pit pits y && not (x == y))
has_pit-without pits x y own other =
    has_pit-bit (without_pit pits x) y
    ∙ at (bit_at pits y) (bit_at (2 ^ x) y) _ (bit_at_and pits (255 - 2 ^ x) y ∙ ap (min (bit_at pits y)) (bit_at_not w8 (2 ^ x) y (pow_below x 8 (omega (arith, own))) (omega (arith, other)))) (bit_at-lt pits y) (bit_at-lt (2 ^ x) y)
    ∙ ap (λ c. c && not (bit_at (2 ^ x) y == 1)) (sym (has_pit-bit pits y)) ∙ ap (λ c. has_pit pits y && not c) (sym (has_pit-bit (2 ^ x) y) ∙ has_pit-alone x y)
  where
    at : (i j k : ℕ) → k ≡ min i (1 - j) → i < 2 → j < 2 → (k == 1) ≡ ((i == 1) && not (j == 1))
    at i j k e low below = grind (arith, nat_tests)

-- ---- the pits below k at which something holds, as pit by pit is looked at

pub split : (x k : ℕ) → x < k + 1 → (x < k) ⊎ (k ≡ x)
split x k h = grind (arith, h)

-- a pit is x or among these where it is among these and x
pub has_pit-either : (pits x y : ℕ) → (has_pit (with_pit pits x) y ≡ true) ↔ ((x ≡ y) ⊎ (has_pit pits y ≡ true))
has_pit-either pits x y = (
  λ has. elim (or_cases (x == y) (has_pit pits y) (sym (has_pit-with pits x y) ∙ has)) [ inl e ↦ inl (eqb-true x y e) | inr old ↦ inr old ],
  λ either. has_pit-with pits x y ∙ elim either [ inl same ↦ or_left _ _ (eq-eqb x y same) | inr old ↦ or_right _ _ old ],
)

module _ (P : ℕ → Type 0) where
  abbrev pub AreBelow : ℕ → ℕ → Type 0
  AreBelow k pits = (x : ℕ) → x < 6 → (has_pit pits x ≡ true) ↔ ((x < k) × P x)

  pub none_below : AreBelow 0 0
  none_below x own = (λ has. absurd (false≢true (sym (has_pit-none x) ∙ has)), λ there. absurd (omega (arith, there.0)))

  -- what holds below k, and not at k, is what holds below k + 1
  pub still_below : (pits k : ℕ) → (P k → ⊥) → AreBelow k pits → AreBelow (k + 1) pits
  still_below pits k fails is x own = (
    λ has. let there = (is x own).0 has in (omega (arith, there.0), there.1),
    λ there. (is x own).1 (elim (split x k there.0) [ inl less ↦ (less, there.1) | inr e ↦ absurd (fails (subst P (sym e) there.1)) ]),
  )

  -- and at k
  pub more_below : (pits k : ℕ) → P k → AreBelow k pits → AreBelow (k + 1) (with_pit pits k)
  more_below pits k here is x own = (
    λ has. elim ((has_pit-either pits k x).0 has) [
      | inl same ↦ (omega (arith, same), subst P same here)
      | inr before ↦ (let there = (is x own).0 before in (omega (arith, there.0), there.1))
    ],
    λ there. (has_pit-either pits k x).1 (elim (split x k there.0) [ inl less ↦ inr ((is x own).1 (less, there.1)) | inr e ↦ inl e ]),
  )

-- the lowest bit is the lowest pit
pub lowest_is : (pits : ℕ) → pits < 2 ^ 8 → trailing_zeros w8 pits < 6 → IsLowestIn pits (Some (trailing_zeros w8 pits))
lowest_is pits fits low = (low, has_pit-bit pits (trailing_zeros w8 pits) ∙ ap (λ b. b == 1) lowest.1, λ y less. has_pit-bit pits y ∙ ap (λ b. b == 1) (lowest.2 y less))
  where
    some : (n : ℕ) → n ≡ pits → 0 < pits
    some zero e = absurd (let eight : trailing_zeros w8 pits ≡ 8 = subst (λ m. trailing_zeros w8 m ≡ 8) e (trailing_of_zero 8) in omega (arith, eight, low))
    some (suc n) e = omega arith

    lowest : (trailing_zeros w8 pits < 8) × (bit_at pits (trailing_zeros w8 pits) ≡ 1) × ((i : ℕ) → i < trailing_zeros w8 pits → bit_at pits i ≡ 0)
    lowest = bit_at-trailing_zeros w8 pits (some pits refl) fits

-- where the lowest bit is none of theirs there is no pit
pub lowest_none : (pits : ℕ) → pits < 2 ^ 8 → 6 ≤ trailing_zeros w8 pits → IsLowestIn pits None
lowest_none pits fits high x own = has_pit-bit pits x ∙ ap (λ b. b == 1) (at pits refl)
  where
    at : (n : ℕ) → n ≡ pits → bit_at pits x ≡ 0
    at zero e = subst (λ m. bit_at m x ≡ 0) e (bit_at-zero x)
    at (suc n) e = (bit_at-trailing_zeros w8 pits (omega arith) fits).2 x (omega (arith, high, own))

-- a set of own pits but one is one of own pits
pub without_few : (pits x : ℕ) → pits < 2 ^ 6 → without_pit pits x < 2 ^ 6
without_few pits x few = omega (arith, and_le_l pits (255 - 2 ^ x))

-- one with no pit is 0
pub none_left : (pits : ℕ) → pits < 2 ^ 6 → ((x : ℕ) → x < 6 → has_pit pits x ≡ false) → pits ≡ 0
none_left pits few none = same_from_bits_below 6 pits 0 few (omega arith) (λ i own. zero_bit (bit_at pits i) (bit_at-lt pits i) (sym (has_pit-bit pits i) ∙ none i own) ∙ sym (bit_at-zero i))
  where
    zero_bit : (b : ℕ) → b < 2 → (b == 1) ≡ false → b ≡ 0
    zero_bit b low e = grind (arith, nat_tests)
