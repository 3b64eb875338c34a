-- Each number below the size of a level is the rank of a board.
use Rattle.std.proofs.Common.{inl, inr, ◌≡◌, ℕ, zero, suc, ◌+◌, ◌-◌, ◌<◌, ◌≤◌, List, [], ◌∷◌, length, sum, replicate, refl, ap, arith}
use Rattle.std.proofs.lemmas.Bool.{cases_lt}
use Rattle.awari_board.specs.Rules.{IsBoard}
use Rattle.awari_rank.specs.Tuples.{total, ways, fewer}
use Rattle.awari_rank.specs.Rank.{rank_of, size_of}
use Rattle.awari_rank.proofs.Counting.{total-grows, ways-suc, ways-zero, ways-none}
use Rattle.awari_rank.proofs.Ranking.{larger, rank_of-larger, smaller_of-larger, sum-cons}

-- the term of a sum that a number below the sum falls into
located : (f : ℕ → ℕ) (m n : ℕ) → m < total f n → (j : ℕ) × (j < n) × (total f j ≤ m) × (m < total f j + f j)
unfolding total
located f m zero h = absurd (omega arith)
located f m (suc n) h =
    elim (cases_lt m (total f n)) [
      | inl lt ↦ let place = located f m n lt in (place.0, omega (arith, place.1), place.2, place.3)
      | inr ge ↦ (n, omega arith, ge, h)
    ]

-- a list of k numbers with the sum n that has m larger ones
record HasAbove (k n m : ℕ) (t : List ℕ) : Type 0 where
  long : length t ≡ k
  stones : sum t ≡ n
  above : larger t ≡ m

longer : {k n m right : ℕ} {t : List ℕ} → right ≤ n → fewer k right ≤ m → HasAbove k right (m - fewer k right) t → HasAbove (suc k) n m ((n - right) ∷ t)
longer {k} {n} {m} {right} {t} few low rest = record {
  long = ap suc rest.long;
  stones = omega (arith, sum-cons (n - right) t, rest.stones);
  above = omega (arith, rest.above, ap (λ k. fewer k (sum t)) rest.long, ap (fewer k) rest.stones);
}

reached : (k n m : ℕ) → m < ways k n → (t : List ℕ) × HasAbove k n m t
reached zero zero m h = ([], record { long = refl; stones = refl; above = omega (arith, ways-zero) })
reached zero (suc n) m h = absurd (omega (arith, ways-none n))
reached (suc k) n m h =
    let place = located (ways k) m (n + 1) (omega (arith, ways-suc k n)) in
    let right : ℕ = place.0 in
    let rest = reached k right (m - fewer k right) (omega (arith, place.2, place.3)) in
    ((n - right) ∷ rest.0, longer (omega (arith, place.1)) place.2 rest.1)

pub board_reached : (n r : ℕ) → n ≤ 24 → r < size_of n → (p : List ℕ) × IsBoard p × (sum p ≡ n) × (rank_of p ≡ r)
unfolding size_of
board_reached n r few in_range =
    let found = reached 12 n (size_of n - 1 - r) (omega arith) in
    let p : List ℕ = found.0 in
    let has = found.1 in (
      p,
      record { pits = has.long; stones = omega (arith, has.stones) },
      has.stones,
      omega (arith, rank_of-larger p has.long, ap size_of has.stones, has.above),
    )

-- each level has a board, as that with all stones in pit 0
pub size_of-positive : (n : ℕ) → 0 < size_of n
unfolding size_of
size_of-positive n =
    let stones : sum (n ∷ replicate 11 0) ≡ n = omega (arith, sum-cons n (replicate 11 0)) in
    omega (arith, smaller_of-larger (n ∷ replicate 11 0), ap (ways 12) stones)

-- a level of more stones has no fewer boards
pub size_of-grows : (a b : ℕ) → a ≤ b → size_of a ≤ size_of b
unfolding size_of
size_of-grows a b h =
    let more = total-grows (ways 11) (a + 1) (b + 1) (omega (arith, h)) in
    omega (arith, more, ways-suc 11 a, ways-suc 11 b)
