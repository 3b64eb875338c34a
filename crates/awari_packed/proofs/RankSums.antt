-- The rank, by the sums to the right.
use Rattle.std.proofs.Common.{◌≡◌, ℕ, ◌+◌, ◌-◌, ◌<◌, List, [], ◌∷◌, length, sum, drop, get_or, ap, arith}
use Rattle.awari_rank.specs.Tuples.{fewer, ways}
use Rattle.awari_rank.specs.Rank.{rank_of, size_of}
use Rattle.awari_rank.proofs.Counting.{total-zero, ways-suc}
use Rattle.awari_rank.proofs.Ranking.{larger, rank_of-larger}

abbrev pub right : List ℕ → ℕ → ℕ
right b i = sum (drop i b)

larger_is : (b : List ℕ) → length b ≡ 12 → larger b ≡ fewer 11 (right b 1) + fewer 10 (right b 2) + fewer 9 (right b 3) + fewer 8 (right b 4) + fewer 7 (right b 5) + fewer 6 (right b 6) + fewer 5 (right b 7) + fewer 4 (right b 8) + fewer 3 (right b 9) + fewer 2 (right b 10) + fewer 1 (right b 11)
larger_is (a ∷ b ∷ c ∷ d ∷ e ∷ f ∷ u ∷ v ∷ w ∷ x ∷ y ∷ z ∷ []) long = omega (arith, total-zero (ways 0))
larger_is _ long = absurd (omega arith)

size_is : (n : ℕ) → size_of n ≡ fewer 11 (n + 1)
unfolding size_of
size_is n = ways-suc 11 n

-- the rank, where the sums to the right are s
pub ranked : (b s : List ℕ) → length b ≡ 12 → ((i : ℕ) → i < 12 → get_or s i 0 ≡ right b i) → rank_of b + (fewer 2 (get_or s 10 0) + fewer 1 (get_or s 11 0) + (fewer 4 (get_or s 8 0) + fewer 3 (get_or s 9 0)) + (fewer 6 (get_or s 6 0) + fewer 5 (get_or s 7 0)) + (fewer 8 (get_or s 4 0) + fewer 7 (get_or s 5 0)) + (fewer 10 (get_or s 2 0) + fewer 9 (get_or s 3 0))) ≡ fewer 11 (get_or s 0 0 + 1) - 1 - fewer 11 (get_or s 1 0)
ranked b s long sums =
    omega (
      arith,
      rank_of-larger b long,
      larger_is b long,
      size_is (sum b),
      ap (λ n. fewer 11 (n + 1)) (sums 0 (omega arith)),
      ap (fewer 11) (sums 1 (omega arith)),
      ap (fewer 10) (sums 2 (omega arith)),
      ap (fewer 9) (sums 3 (omega arith)),
      ap (fewer 8) (sums 4 (omega arith)),
      ap (fewer 7) (sums 5 (omega arith)),
      ap (fewer 6) (sums 6 (omega arith)),
      ap (fewer 5) (sums 7 (omega arith)),
      ap (fewer 4) (sums 8 (omega arith)),
      ap (fewer 3) (sums 9 (omega arith)),
      ap (fewer 2) (sums 10 (omega arith)),
      ap (fewer 1) (sums 11 (omega arith)),
    )
