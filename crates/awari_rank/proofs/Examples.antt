-- Worked examples of levels and ranks.
use Rattle.std.proofs.Common.{◌≡◌, ℕ, zero, suc, ◌+◌, ◌<◌, [], ◌∷◌, ◌++◌, map, replicate, refl, sym, ◌∙◌, ap, arith}
use Rattle.std.specs.List.{range_with_len}
use Rattle.std.proofs.lemmas.List.FromFn.{map-range_with_len_more}
use Rattle.awari_rank.specs.Tuples.{tuples, total}
use Rattle.awari_rank.specs.Rank.{rank_of, size_of}
use Rattle.awari_rank.proofs.Counting.{ways-suc}
use Rattle.awari_rank.proofs.Ranking.{rank_of-larger}
use Rattle.awari_rank.proofs.Table.{at, table_is}

map_same : (f g : ℕ → ℕ) (n : ℕ) → ((k : ℕ) → k < n → f k ≡ g k) → map f (range_with_len 0 n) ≡ map g (range_with_len 0 n)
map_same f g zero same = refl
map_same f g (suc n) same =
    let more : suc n ≡ n + 1 = omega arith in
    ap (λ m. map f (range_with_len 0 m)) more ∙ map-range_with_len_more f 0 n n (omega arith)
    ∙ ap (λ ys. ys ++ f n ∷ []) (map_same f g n (λ k h. same k (omega arith)))
    ∙ ap (λ y. map g (range_with_len 0 n) ++ y ∷ []) (same n (omega arith))
    ∙ sym (ap (λ m. map g (range_with_len 0 m)) more ∙ map-range_with_len_more g 0 n n (omega arith))

size_of-at : (n : ℕ) → n < 25 → size_of n ≡ at 0 (n + 1)
unfolding size_of
size_of-at n h = ways-suc 11 n ∙ sym (table_is 0 (n + 1) (omega arith) (omega arith))

pub sizes : map size_of (range_with_len 0 25) ≡ 1 ∷ 12 ∷ 78 ∷ 364 ∷ 1365 ∷ 4368 ∷ 12376 ∷ 31824 ∷ 75582 ∷ 167960 ∷ 352716 ∷ 705432 ∷ 1352078 ∷ 2496144 ∷ 4457400 ∷ 7726160 ∷ 13037895 ∷ 21474180 ∷ 34597290 ∷ 54627300 ∷ 84672315 ∷ 129024480 ∷ 193536720 ∷ 286097760 ∷ 417225900 ∷ []
unfolding at
sizes = map_same size_of (λ n. at 0 (n + 1)) 25 (λ n h. size_of-at n (omega arith)) ∙ refl

pub highest : size_of 24 ≡ 417225900
unfolding at
highest = size_of-at 24 (omega arith)

pub listed : tuples 3 2 ≡ (0 ∷ 0 ∷ 2 ∷ []) ∷ (0 ∷ 1 ∷ 1 ∷ []) ∷ (0 ∷ 2 ∷ 0 ∷ []) ∷ (1 ∷ 0 ∷ 1 ∷ []) ∷ (1 ∷ 1 ∷ 0 ∷ []) ∷ (2 ∷ 0 ∷ 0 ∷ []) ∷ []
unfolding tuples
listed = refl

pub one_stone : rank_of (replicate 5 0 ++ 1 ∷ replicate 6 0) ≡ 6
unfolding rank_of tuples
one_stone = refl

pub two_beside : rank_of (replicate 5 0 ++ 1 ∷ 1 ∷ replicate 5 0) ≡ 26
unfolding rank_of tuples
two_beside = refl

pub two_apart : rank_of (1 ∷ replicate 5 0 ++ 1 ∷ replicate 5 0) ≡ 71
unfolding rank_of tuples
two_apart = refl

-- the twelve stones in the last pit, and in the first
pub first : rank_of (replicate 11 0 ++ 12 ∷ []) ≡ 0
unfolding at
first =
    omega (
      arith,
      rank_of-larger (replicate 11 0 ++ 12 ∷ []) refl,
      size_of-at 12 (omega arith),
      table_is 0 12 (omega arith) (omega arith),
      table_is 1 12 (omega arith) (omega arith),
      table_is 2 12 (omega arith) (omega arith),
      table_is 3 12 (omega arith) (omega arith),
      table_is 4 12 (omega arith) (omega arith),
      table_is 5 12 (omega arith) (omega arith),
      table_is 6 12 (omega arith) (omega arith),
      table_is 7 12 (omega arith) (omega arith),
      table_is 8 12 (omega arith) (omega arith),
      table_is 9 12 (omega arith) (omega arith),
      table_is 10 12 (omega arith) (omega arith),
    )

pub last : rank_of (12 ∷ replicate 11 0) ≡ 1352077
unfolding at total
last = omega (arith, rank_of-larger (12 ∷ replicate 11 0) refl, size_of-at 12 (omega arith))

pub highest_last : rank_of (24 ∷ replicate 11 0) ≡ 417225899
unfolding at total
highest_last = omega (arith, rank_of-larger (24 ∷ replicate 11 0) refl, size_of-at 24 (omega arith))
