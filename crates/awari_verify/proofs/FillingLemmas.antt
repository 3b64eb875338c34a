-- The ranks of the boards of a tile.
use Rattle.std.proofs.Common.{◌≡◌, ◌↔◌, ℕ, ◌+◌, ◌<◌, ◌≤◌, List, ◌++◌, length, sum, take, drop, refl, sym, ◌∙◌, ap, arith, length-append}
use Rattle.std.proofs.lemmas.List.Sums.{sum_by-append}
use Rattle.std.proofs.Math.Seq.{take-append_seam}
use Rattle.awari_board.specs.Rules.{own_stones, turned}
use Rattle.awari_rank.specs.Fillings.{last_of, none}
use Rattle.awari_rank.specs.Rank.{rank_of, size_of}
use Rattle.awari_rank.proofs.Fillings.{empty_front, first_fillings, halved, place}
use Rattle.awari_rank.proofs.Ranking.{larger, rank_of-larger, rank_fixes}
use Rattle.awari_rank.proofs.Succeeding.{larger-append, larger-first}
use Rattle.awari_verify.specs.Pieces.{other_filling, own_filling}

-- the boards with no own stones are the first of their level
pub fillings_first : (k : ℕ) (p : List ℕ) → length p ≡ 12 → sum p ≡ k → (rank_of p < rank_of (none ++ last_of k) + 1) ↔ (own_stones p ≡ 0)
fillings_first k p long stones = (
  λ before. ap sum (first_fillings k p long stones (omega (arith, before))),
  λ own.
      let back = (halved p long).back in
      let rest : sum (drop 6 p) ≡ k = (let s = (halved p long).stones in omega (arith, s, own, stones)) in
      let one = larger-append none (drop 6 p) (last_of k) back (rest ∙ sym (let e : sum (last_of k) ≡ k = omega arith in e)) in
      omega (
        arith,
        one,
        larger-first (last_of k) 5 refl refl,
        ap larger (empty_front p long own),
        rank_of-larger p long,
        rank_of-larger (none ++ last_of k) refl,
        ap size_of (stones ∙ sym level),
      ),
)
  where
    level : sum (none ++ last_of k) ≡ k
    level = omega arith

-- ---- boards joined from two fillings

turned_front : (h : List ℕ) → length h ≡ 12 → take 6 (turned h) ≡ drop 6 h
turned_front h long = ap (λ (n : ℕ). take n (turned h)) (sym (halved h long).back) ∙ take-append_seam (drop 6 h) (take 6 h)

-- the filling of the own pits of a board, moved there
pub turned_filling : (p h : List ℕ) → length p ≡ 12 → length h ≡ 12 → sum h ≡ own_stones p → rank_of h ≡ own_filling p → take 6 (turned h) ≡ take 6 p
turned_filling p h long long' stones is =
    let front = (halved p long).front in
    let long_n : length (none ++ take 6 p) ≡ 12 = omega (arith, length-append none (take 6 p), front) in
    let sum_n : sum (none ++ take 6 p) ≡ own_stones p = (let s : sum none ≡ 0 = refl in omega (arith, sum_by-append (λ x. x) none (take 6 p), s)) in
    turned_front h long' ∙ ap (drop 6) (rank_fixes h (none ++ take 6 p) long' long_n (stones ∙ sym sum_n) is)

-- the stones of a board joined from two fillings
pub joined_stones : (h t : List ℕ) → length h ≡ 12 → length t ≡ 12 → own_stones h ≡ 0 → own_stones t ≡ 0 → sum (take 6 (turned h) ++ drop 6 t) ≡ sum h + sum t
joined_stones h t long long' own own' =
    let s = (halved h long).stones in
    let s' = (halved t long').stones in
    let turn = ap sum (turned_front h long) in
    omega (arith, s, s', own, own', turn, sum_by-append (λ x. x) (take 6 (turned h)) (drop 6 t))

-- a board of a tile is of the run of its own filling
pub tile_run : (p h t : List ℕ) (count : ℕ) → length p ≡ 12 → length h ≡ 12 → length t ≡ 12 → own_stones t ≡ 0 → sum t ≡ sum (drop 6 p) → sum h ≡ own_stones p → rank_of h ≡ own_filling p
    → rank_of t ≤ other_filling p → other_filling p < rank_of t + count → (rank_of (take 6 (turned h) ++ drop 6 t) ≤ rank_of p) × (rank_of p < rank_of (take 6 (turned h) ++ drop 6 t) + count)
tile_run p h t count long long_h long_t own others stones is above below =
    let at = place p t long long_t own others in
    let same = ap (λ (l : List ℕ). rank_of (l ++ drop 6 t)) (turned_filling p h long long_h stones is) in (
      omega (arith, at, same, above),
      omega (arith, at, same, below),
    )
