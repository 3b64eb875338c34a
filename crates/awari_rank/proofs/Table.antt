-- The table of `fewer`: Pascal's rule, tested at each place of the table, fixes its numbers.
use Rattle.std.proofs.Common.{◌≡◌, ℕ, zero, suc, ◌+◌, ◌-◌, ◌<◌, Bool, true, ◌&&◌, eqb, [], get_or, refl, ◌∙◌, ap, arith}
use Rattle.std.proofs.lemmas.Bool.Decides.{Decides-below_and, Decides-eqb}
use Rattle.awari_rank.specs.Tuples.{total, ways, fewer}
use Rattle.awari_rank.specs.declared.counts.TheConstants.{FEWER}
use Rattle.awari_rank.proofs.Counting.{total-zero, total-add-one, ways-suc, fewer-zero}
use Rattle.std.proofs.lemmas.Bool.{eqb-true}

fewer-one : (n : ℕ) → fewer 1 n ≡ n
unfolding total
fewer-one zero = refl
fewer-one (suc n) = omega (arith, fewer-one n, ways-suc 0 n, fewer-zero n)

-- Pascal's rule
fewer-step : (k n : ℕ) → fewer (suc k) (n + 1) ≡ fewer (suc k) n + fewer k (n + 1)
fewer-step k n = omega (arith, total-add-one (ways (suc k)) n, ways-suc k n)

unfoldable pub all_below : (ℕ → Bool) → ℕ → Bool
all_below p zero = true
all_below p (suc n) = p n && all_below p n

pub below_all : (p : ℕ → Bool) (n : ℕ) → all_below p n ≡ true → (k : ℕ) → k < n → p k ≡ true
unfolding all_below
below_all p n h = (Decides-below_and p (λ k. p k ≡ true) (all_below p) (λ k. (λ e. e, λ e. e)) refl (λ _. refl) n).0 h

-- row i at n
unfoldable pub at : ℕ → ℕ → ℕ
at i n = get_or (get_or FEWER i []) n 0

edge_ok : all_below (λ i. eqb (at i 0) 0) 11 ≡ true
unfolding all_below at
edge_ok = refl

bottom_ok : all_below (λ n. eqb (at 10 n) n) 26 ≡ true
unfolding all_below at
bottom_ok = refl

rule_ok : all_below (λ i. all_below (λ n. eqb (at i (suc n)) (at i n + at (suc i) (suc n))) 25) 10 ≡ true
unfolding all_below at
rule_ok = refl

edge : (i : ℕ) → i < 11 → at i 0 ≡ 0
edge i h = eqb-true (at i 0) 0 (below_all (λ i. eqb (at i 0) 0) 11 edge_ok i h)

bottom : (n : ℕ) → n < 26 → at 10 n ≡ n
bottom n h = eqb-true (at 10 n) n (below_all (λ n. eqb (at 10 n) n) 26 bottom_ok n h)

rule : (i n : ℕ) → i < 10 → n < 25 → at i (suc n) ≡ at i n + at (suc i) (suc n)
rule i n in_rows in_row =
    let p : ℕ → Bool = λ n. eqb (at i (suc n)) (at i n + at (suc i) (suc n)) in
    let rows : ℕ → Bool = λ i. all_below (λ n. eqb (at i (suc n)) (at i n + at (suc i) (suc n))) 25 in
    eqb-true (at i (suc n)) (at i n + at (suc i) (suc n)) (below_all p 25 (below_all rows 10 rule_ok i in_rows) n in_row)

-- a row from the one below it
row : (i k : ℕ) → i < 10 → ((n : ℕ) → n < 26 → at (suc i) n ≡ fewer (suc k) n) → (n : ℕ) → n < 26 → at i n ≡ fewer (suc (suc k)) n
row i k h below zero in_row = omega (arith, edge i (omega arith), total-zero (ways (suc (suc k))))
row i k h below (suc n) in_row =
    let next : n + 1 ≡ suc n = omega arith in
    omega (
      arith,
      rule i n h (omega arith),
      row i k h below n (omega arith),
      below (suc n) in_row,
      fewer-step (suc k) n,
      ap (fewer (suc (suc k))) next,
      ap (fewer (suc k)) next,
    )

rows_are : (k i : ℕ) → i + k ≡ 10 → (n : ℕ) → n < 26 → at i n ≡ fewer (suc k) n
rows_are zero i e n h =
    let here : i ≡ 10 = omega arith in omega (arith, ap (λ i. at i n) here, bottom n h, fewer-one n)
rows_are (suc k) i e n h = row i k (omega arith) (rows_are k (suc i) (omega arith)) n h

pub table_is : (i n : ℕ) → i < 11 → n < 26 → at i n ≡ fewer (11 - i) n
table_is i n in_rows in_row =
    let k : suc (10 - i) ≡ 11 - i = omega arith in
    rows_are (10 - i) i (omega arith) n in_row ∙ ap (λ k. fewer k n) k
