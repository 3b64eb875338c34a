-- Won, even and lost boards by value.
use Rattle.std.proofs.Common.{◌≡◌, ℕ, ◌+◌, ◌-◌, ◌==◌, ◌<◌, ◌≤◌, true, false, int_lt, ℤ, pos, ◌-ℤ◌, sym, ◌∙◌, ap, inl, inr, arith}
use Rattle.std.proofs.lemmas.Bool.{cases_lt}
use Rattle.std.proofs.lemmas.Bool.Decides.{nat_tests}
use Rattle.std.proofs.lemmas.Int.{ints}
use Rattle.std.specs.Ordering.{int_eq}
use Rattle.awari_counts.proofs.CellLaws.{number-key}
use Rattle.awari_rank.proofs.Counting.{total_same}
use Rattle.awari_rank.specs.Tuples.{total}
use Rattle.awari_counts.proofs.KeyLaws.{one-key, one_if, total-zeros}

-- a key among some successive ones, or not
span_has : (j a n : ℕ) → a ≤ j → j < a + n → total (λ m. one_if (j == a + m)) n ≡ 1
span_has j a n low high =
    total_same (λ m. one_if (j == a + m)) (λ m. one_if (j - a == m)) n (λ m below. ap one_if (let same : (j == a + m) ≡ (j - a == m) = grind (arith, nat_tests) in same)) ∙ one-key (j - a) n (omega (arith, low, high))

span_lacks : (j a n : ℕ) → ((m : ℕ) → m < n → (j == a + m) ≡ false) → total (λ m. one_if (j == a + m)) n ≡ 0
span_lacks j a n none = total-zeros (λ m. one_if (j == a + m)) n (λ m below. ap one_if (none m below))

by_place : (v : ℤ) (j a n : ℕ) → v ≡ pos j -ℤ pos 128 → total (λ m. one_if (int_eq v (pos (a + m) -ℤ pos 128))) n ≡ total (λ m. one_if (j == a + m)) n
by_place v j a n is = total_same (λ m. one_if (int_eq v (pos (a + m) -ℤ pos 128))) (λ m. one_if (j == a + m)) n (λ m below. ap one_if (ap (λ u. int_eq u (pos (a + m) -ℤ pos 128)) is ∙ number-key 128 j (a + m)))

pub won_once : (v : ℤ) (j : ℕ) → j < 256 → v ≡ pos j -ℤ pos 128 → total (λ m. one_if (int_eq v (pos (129 + m) -ℤ pos 128))) 127 ≡ one_if (int_lt (pos 0) v)
won_once v j below is = by_place v j 129 127 is ∙ elim (cases_lt 128 j) [
  | inl more ↦
      let yes : int_lt (pos 0) v ≡ true = grind (arith, ints, nat_tests) in
      span_has j 129 127 (omega (arith, more)) (omega (arith, below)) ∙ ap one_if (sym yes)
  | inr less ↦
      let no : int_lt (pos 0) v ≡ false = grind (arith, ints, nat_tests) in
      span_lacks j 129 127 (λ m inside. grind (arith, nat_tests)) ∙ ap one_if (sym no)
]

pub lost_once : (v : ℤ) (j : ℕ) → v ≡ pos j -ℤ pos 128 → total (λ m. one_if (int_eq v (pos m -ℤ pos 128))) 128 ≡ one_if (int_lt v (pos 0))
lost_once v j is = total_same (λ m. one_if (int_eq v (pos m -ℤ pos 128))) (λ m. one_if (j == m)) 128 (λ m below. ap one_if (ap (λ u. int_eq u (pos m -ℤ pos 128)) is ∙ number-key 128 j m)) ∙ elim (cases_lt j 128) [
  | inl less ↦
      let yes : int_lt v (pos 0) ≡ true = grind (arith, ints, nat_tests) in
      one-key j 128 less ∙ ap one_if (sym yes)
  | inr more ↦
      let no : int_lt v (pos 0) ≡ false = grind (arith, ints, nat_tests) in
      total-zeros (λ m. one_if (j == m)) 128 (λ m inside. ap one_if (let other : (j == m) ≡ false = grind (arith, nat_tests) in other)) ∙ ap one_if (sym no)
]
