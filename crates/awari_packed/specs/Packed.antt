-- Packed boards, each in one number: five bits a pit, pit 11 lowest, so that the order of the numbers is that of the boards.
use Rattle.std.specs.Prelude.{◌≡◌, ℕ, ◌+◌, ◌*◌, ◌/◌, ◌%◌, ◌^◌, ◌<◌, ◌≤◌, List, [], ◌∷◌, length, sum}
use Rattle.std.proofs.Common.{zero, suc, refl, ap, arith}
use Rattle.std.proofs.lemmas.Nat.{mod-pow-add}

-- the number whose digits in base 32 these are
unfoldable pub packed : List ℕ → ℕ
packed [] = 0
packed (x ∷ t) = x * 2 ^ (5 * length t) + packed t

-- the last k digits of n in base 32
unfoldable pub unpacked : ℕ → ℕ → List ℕ
unpacked zero n = []
unpacked (suc k) n = (n / 2 ^ (5 * k) % 32) ∷ unpacked k n

-- the twelve pits of a number
unfoldable pub pits_of : ℕ → List ℕ
pits_of n = unpacked 12 n

-- the number is that of a board of at most 24 stones
pub record IsPacking (n : ℕ) : Type 0 where
  pub top : n < 2 ^ 60
  pub few : sum (pits_of n) ≤ 24

-- the number is that of this board
pub record IsPackOf (n : ℕ) (b : List ℕ) : Type 0 where
  pub long : length b ≡ 12
  pub few : sum b ≤ 24
  pub number : n ≡ packed b

-- ---- a number is that of its pits

pub length-unpacked : (k n : ℕ) → length (unpacked k n) ≡ k
unfolding unpacked
length-unpacked zero n = refl
length-unpacked (suc k) n = omega (arith, length-unpacked k n)

pub packed-unpacked : (k n : ℕ) → packed (unpacked k n) ≡ n % 2 ^ (5 * k)
unfolding packed unpacked
packed-unpacked zero n = omega arith
packed-unpacked (suc k) n =
    let e : 5 + 5 * k ≡ 5 * suc k = omega arith in
    omega (
      arith,
      packed-unpacked k n,
      ap (λ m. (n / 2 ^ (5 * k) % 32) * 2 ^ (5 * m)) (length-unpacked k n),
      mod-pow-add n 5 (5 * k),
      ap (λ m. n % 2 ^ m) e,
    )

pub packed-pits_of : (n : ℕ) → n < 2 ^ 60 → packed (pits_of n) ≡ n
unfolding pits_of
packed-pits_of n top = omega (arith, packed-unpacked 12 n)
