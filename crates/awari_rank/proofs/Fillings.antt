-- The ways to fill six pits, and the ranks of the boards that have them.
use Rattle.std.proofs.Common.{◌≡◌, ℕ, zero, suc, ◌+◌, ◌≤◌, inl, inr, true, List, [], ◌∷◌, ◌++◌, length, sum, take, drop, refl, sym, ◌∙◌, ap, arith, length-append, length-drop}
use Rattle.std.proofs.lemmas.Bool.{cases_lt, false≢true}
use Rattle.std.proofs.lemmas.Bool.Decides.{nat_tests}
use Rattle.std.proofs.lemmas.List.{length-take-le, take-append-drop}
use Rattle.std.proofs.lemmas.List.Sums.{sum_by-append, sum_by-take-drop}
use Rattle.std.specs.Ordering.{nat_cmp, is_lt, ordering_then}
use Rattle.std.specs.Cmp.Lexicographic.{slice_cmp}
use Rattle.std.specs.declared.cmp.Ordering.TheVariants.{Greater}
use Rattle.awari_board.specs.Rules.{own_stones}
use Rattle.awari_rank.specs.Fillings.{last_of, none}
use Rattle.awari_rank.specs.Rank.{is_smaller, rank_of, size_of}
use Rattle.awari_rank.proofs.Order.{rank_orders}
use Rattle.awari_rank.proofs.Ranking.{larger, rank_of-larger, rank_fixes}
use Rattle.awari_rank.proofs.Succeeding.{larger-append}

none_from : (l : List ℕ) → length l ≡ 6 → sum l ≡ 0 → l ≡ none
none_from (a ∷ b ∷ c ∷ d ∷ e ∷ f ∷ []) long stones =
    let a0 : a ≡ 0 = omega (arith, stones) in
    let b0 : b ≡ 0 = omega (arith, stones) in
    let c0 : c ≡ 0 = omega (arith, stones) in
    let d0 : d ≡ 0 = omega (arith, stones) in
    let e0 : e ≡ 0 = omega (arith, stones) in
    let f0 : f ≡ 0 = omega (arith, stones) in
    (λ i. a0 i ∷ b0 i ∷ c0 i ∷ d0 i ∷ e0 i ∷ f0 i ∷ [])
none_from [] long stones = absurd (omega arith)
none_from (a ∷ []) long stones = absurd (omega arith)
none_from (a ∷ b ∷ []) long stones = absurd (omega arith)
none_from (a ∷ b ∷ c ∷ []) long stones = absurd (omega arith)
none_from (a ∷ b ∷ c ∷ d ∷ []) long stones = absurd (omega arith)
none_from (a ∷ b ∷ c ∷ d ∷ e ∷ []) long stones = absurd (omega arith)
none_from (a ∷ b ∷ c ∷ d ∷ e ∷ f ∷ g ∷ l) long stones = absurd (omega arith)

smaller_zero : (x : ℕ) (xs ys : List ℕ) → is_smaller (x ∷ xs) (0 ∷ ys) ≡ true → (x ≡ 0) × (is_smaller xs ys ≡ true)
smaller_zero zero xs ys less = (refl, less)
smaller_zero (suc x) xs ys less = absurd (false≢true (sym (ap (λ o. is_lt (ordering_then o (slice_cmp nat_cmp xs ys))) greater) ∙ less))
  where
    greater : nat_cmp (suc x) 0 ≡ Greater
    greater = grind (arith, nat_tests)

own_none : (b : List ℕ) (ys : List ℕ) → length b ≡ 12 → is_smaller b (none ++ ys) ≡ true → take 6 b ≡ none
own_none (a ∷ b ∷ c ∷ d ∷ e ∷ f ∷ xs) ys long less =
    let one = smaller_zero a (b ∷ c ∷ d ∷ e ∷ f ∷ xs) (0 ∷ 0 ∷ 0 ∷ 0 ∷ 0 ∷ ys) less in
    let two = smaller_zero b (c ∷ d ∷ e ∷ f ∷ xs) (0 ∷ 0 ∷ 0 ∷ 0 ∷ ys) one.1 in
    let three = smaller_zero c (d ∷ e ∷ f ∷ xs) (0 ∷ 0 ∷ 0 ∷ ys) two.1 in
    let four = smaller_zero d (e ∷ f ∷ xs) (0 ∷ 0 ∷ ys) three.1 in
    let five = smaller_zero e (f ∷ xs) (0 ∷ ys) four.1 in
    let six = smaller_zero f xs ys five.1 in
    (λ i. one.0 i ∷ two.0 i ∷ three.0 i ∷ four.0 i ∷ five.0 i ∷ six.0 i ∷ [])
own_none [] ys long less = absurd (omega arith)
own_none (a ∷ []) ys long less = absurd (omega arith)
own_none (a ∷ b ∷ []) ys long less = absurd (omega arith)
own_none (a ∷ b ∷ c ∷ []) ys long less = absurd (omega arith)
own_none (a ∷ b ∷ c ∷ d ∷ []) ys long less = absurd (omega arith)
own_none (a ∷ b ∷ c ∷ d ∷ e ∷ []) ys long less = absurd (omega arith)

-- the halves of a board
pub record Halved (p : List ℕ) : Type 0 where
  pub front : length (take 6 p) ≡ 6
  pub back : length (drop 6 p) ≡ 6
  pub whole : take 6 p ++ drop 6 p ≡ p
  pub stones : sum p ≡ own_stones p + sum (drop 6 p)

pub halved : (p : List ℕ) → length p ≡ 12 → Halved p
halved p long = record {
  front = length-take-le 6 p (omega arith);
  back = omega (arith, length-drop 6 p);
  whole = take-append-drop 6 p;
  stones = (let parts = sum_by-take-drop (λ x. x) p 6 in omega (arith, parts));
}

-- a board with no own stones
pub empty_front : (t : List ℕ) → length t ≡ 12 → own_stones t ≡ 0 → none ++ drop 6 t ≡ t
empty_front t long own =
    let h = halved t long in
    ap (λ (l : List ℕ). l ++ drop 6 t) (sym (none_from (take 6 t) h.front own)) ∙ h.whole

-- a board comes as far behind another with the same own pits as their fillings are apart
pub place : (p t : List ℕ) → length p ≡ 12 → length t ≡ 12 → own_stones t ≡ 0 → sum t ≡ sum (drop 6 p) → rank_of p + rank_of t ≡ rank_of (take 6 p ++ drop 6 t) + rank_of (none ++ drop 6 p)
place p t long long' own stones =
    let h = halved p long in
    let k = halved t long' in
    let q : List ℕ = take 6 p ++ drop 6 t in
    let n : List ℕ = none ++ drop 6 p in
    let front = h.front in
    let back = h.back in
    let back' = k.back in
    let level : sum (drop 6 p) ≡ sum (drop 6 t) = (let s = k.stones in omega (arith, s, own, stones)) in
    let long_q : length q ≡ 12 = omega (arith, length-append (take 6 p) (drop 6 t), front, back') in
    let long_n : length n ≡ 12 = omega (arith, length-append none (drop 6 p), back) in
    let sum_q : sum q ≡ sum p = (let s = h.stones in omega (arith, sum_by-append (λ x. x) (take 6 p) (drop 6 t), s, level)) in
    let sum_n : sum n ≡ sum t = (let s : sum none ≡ 0 = refl in omega (arith, sum_by-append (λ x. x) none (drop 6 p), s, stones)) in
    let one = larger-append (take 6 p) (drop 6 p) (drop 6 t) (back ∙ sym back') level in
    let two = larger-append none (drop 6 p) (drop 6 t) (back ∙ sym back') level in
    let same_p = ap larger h.whole in
    let same_t = ap larger (empty_front t long' own) in
    omega (
      arith,
      one,
      two,
      same_p,
      same_t,
      rank_of-larger p long,
      rank_of-larger t long',
      rank_of-larger q long_q,
      rank_of-larger n long_n,
      ap size_of sum_q,
      ap size_of sum_n,
    )

-- up to the last filling no board has own stones
pub first_fillings : (k : ℕ) (p : List ℕ) → length p ≡ 12 → sum p ≡ k → rank_of p ≤ rank_of (none ++ last_of k) → take 6 p ≡ none
first_fillings k p long stones most =
    elim (cases_lt (rank_of p) (rank_of (none ++ last_of k))) [
      | inl less ↦ own_none p (last_of k) long (rank_orders p (none ++ last_of k) long refl (stones ∙ sym level) less)
      | inr same ↦ ap (take 6) (rank_fixes p (none ++ last_of k) long refl (stones ∙ sym level) (omega (arith, same, most)))
    ]
  where
    level : sum (none ++ last_of k) ≡ k
    level = omega arith
