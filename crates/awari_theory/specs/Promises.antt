-- What the values of a certificate are, in terms of what can be forced.
use Rattle.std.specs.Prelude.{◌≡◌, ℕ, ◌≤◌, true, false, List, pos, neg_ℤ, ◌≤ℤ◌}
use Rattle.awari_table.specs.Certificate.{Table}
use Rattle.awari_theory.specs.Worth.{Forced, IsWorth}

-- The value is what the board is worth. The side that it favours forces it within the distance, and neither side ever forces more.
pub record IsRightWorth (t : Table) (p : List ℕ) : Type 0 where
  pub worth : IsWorth p (t.value p)
  pub gets : (n : ℕ) → 1 ≤ n → t.value p ≡ pos n → Forced IsWorth true n (t.dist p) p
  pub holds : (n : ℕ) → 1 ≤ n → t.value p ≡ neg_ℤ (pos n) → Forced IsWorth false n (t.dist p) p
  pub gets_no_more : (n k : ℕ) → 1 ≤ n → Forced IsWorth true n k p → pos n ≤ℤ t.value p
  pub holds_no_more : (n k : ℕ) → 1 ≤ n → Forced IsWorth false n k p → t.value p ≤ℤ neg_ℤ (pos n)
