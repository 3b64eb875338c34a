-- The board after a board: of the stones in the last pit that holds any, one goes a pit forward and the others to the last pit.
use Rattle.std.proofs.Common.{◌≡◌, ℕ, zero, suc, ◌+◌, ◌-◌, ◌<◌, ◌≤◌, List, [], ◌∷◌, ◌++◌, length, sum, get_or, take, drop, set, get_or-set_other, refl, sym, ◌∙◌, ap, arith, length-append, length-drop}
use Rattle.std.proofs.lemmas.List.{drop_more, length-take-le, take-append-drop, set-append_right}
use Rattle.std.proofs.lemmas.List.Sums.{sum_by-append}
use Rattle.awari_board.specs.Rules.{IsBoard}
use Rattle.awari_rank.specs.Held.{IsLastHeld}
use Rattle.awari_rank.specs.Tuples.{ways, fewer}
use Rattle.awari_rank.specs.Rank.{rank_of, size_of}
use Rattle.awari_rank.proofs.Counting.{total-zero, total-add-one, ways-suc, fewer-zero}
use Rattle.awari_rank.proofs.Ranking.{larger, rank_of-larger, sum-cons}

-- what comes before two lists of as many stones adds as many larger ones to both
pub larger-append : (p t s : List ℕ) → length t ≡ length s → sum t ≡ sum s → larger (p ++ t) + larger s ≡ larger (p ++ s) + larger t
larger-append [] t s long stones = omega arith
larger-append (x ∷ p) t s long stones =
    let all_long : length (p ++ t) ≡ length (p ++ s) = omega (arith, length-append p t, length-append p s) in
    let all_stones : sum (p ++ t) ≡ sum (p ++ s)
    = omega (arith, sum_by-append (λ x. x) p t, sum_by-append (λ x. x) p s)
    in
    omega (
      arith,
      larger-append p t s long stones,
      ap (λ k. fewer k (sum (p ++ t))) all_long,
      ap (fewer (length (p ++ s))) all_stones,
    )

-- with no stones there is one list
pub larger-none : (t : List ℕ) → sum t ≡ 0 → larger t ≡ 0
larger-none [] none = refl
larger-none (x ∷ t) none =
    let rest : sum t ≡ 0 = omega (arith, sum-cons x t) in
    omega (arith, larger-none t rest, total-zero (ways (length t)), ap (fewer (length t)) rest)

-- the first of the lists of k numbers with the sum w
pub record IsFirst (k w : ℕ) (t : List ℕ) : Type 0 where
  pub long : length t ≡ k
  pub stones : sum t ≡ w
  pub first : larger t + 1 ≡ ways k w

-- all stones in the last pit
pub first_set : (t : List ℕ) (n w : ℕ) → n + 1 ≡ length t → sum t ≡ 0 → IsFirst (n + 1) w (set t n w)
first_set [] n w long none = absurd (omega arith)
first_set (x ∷ []) zero w long none = record {
  long = refl;
  stones = omega (arith, sum-cons w []);
  first = omega (arith, ways-suc 0 w, fewer-zero w, total-zero (ways 0));
}
first_set (x ∷ y ∷ t) zero w long none = absurd (omega arith)
first_set (x ∷ []) (suc n) w long none = absurd (omega arith)
first_set (x ∷ y ∷ t) (suc n) w long none =
    let rest = first_set (y ∷ t) n w (omega arith) (omega (arith, sum-cons x (y ∷ t))) in
    let r : List ℕ = set (y ∷ t) n w in
    let all : suc n + 1 ≡ suc (n + 1) = omega arith in
    record {
      long = omega (arith, rest.long);
      stones = omega (arith, sum-cons x r, sum-cons x (y ∷ t), rest.stones);
      first = omega (
        arith,
        rest.first,
        ap (λ k. fewer k (sum r)) rest.long,
        ap (fewer (n + 1)) rest.stones,
        total-add-one (ways (n + 1)) w,
        ways-suc (n + 1) w,
        ap (λ k. ways k w) all,
      );
    }

-- s has as many stones as b, and one larger list less
pub record IsNext (b s : List ℕ) : Type 0 where
  pub long : length s ≡ length b
  pub stones : sum s ≡ sum b
  pub next : larger b ≡ larger s + 1

-- the pits from the one before the last that holds stones
tail_next : (z r : List ℕ) (k u v : ℕ) → k ≡ length z → 0 < v → sum z ≡ 0 → IsFirst (k + 1) (v - 1) r → IsNext (u ∷ v ∷ z) ((u + 1) ∷ r)
tail_next z r k u v is some none least =
    let long : length (v ∷ z) ≡ k + 1 = omega arith in
    let stones : sum (v ∷ z) ≡ v - 1 + 1 = omega (arith, sum-cons v z) in
    record {
      long = omega (arith, least.long);
      stones = omega (arith, sum-cons u (v ∷ z), sum-cons (u + 1) r, least.stones);
      next = omega (
        arith,
        least.first,
        ap (λ k. fewer k (sum (v ∷ z))) long,
        ap (fewer (k + 1)) stones,
        total-add-one (ways (k + 1)) (v - 1),
        larger-none z none,
        ap (fewer (length z)) none,
        total-zero (ways (length z)),
        ap (λ k. fewer k (sum r)) least.long,
        ap (fewer (k + 1)) least.stones,
      );
    }

front_next : (p t s : List ℕ) → IsNext t s → IsNext (p ++ t) (p ++ s)
front_next p t s is = record {
  long = omega (arith, length-append p t, length-append p s, is.long);
  stones = omega (arith, sum_by-append (λ x. x) p t, sum_by-append (λ x. x) p s, is.stones);
  next = omega (arith, larger-append p t s (sym is.long) (sym is.stones), is.next);
}

-- the three writes
written : (p z : List ℕ) (i n u v w : ℕ) → length p ≡ i → n ≡ i + 1 + length z → set (set (set (p ++ (u ∷ v ∷ z)) (i + 1) 0) i (u + 1)) n w ≡ p ++ ((u + 1) ∷ set (0 ∷ z) (length z) w)
written p z i n u v w long end =
    let one : i + 1 - i ≡ 1 = omega arith in
    let none : i - i ≡ 0 = omega arith in
    let past : n - i ≡ suc (length z) = omega arith in
    ap (λ b. set (set b i (u + 1)) n w) (set-append_right p (u ∷ v ∷ z) i (i + 1) 0 long (omega arith) ∙ ap (λ m. p ++ set (u ∷ v ∷ z) m 0) one)
    ∙ ap (λ b. set b n w) (set-append_right p (u ∷ 0 ∷ z) i i (u + 1) long (omega arith) ∙ ap (λ m. p ++ set (u ∷ 0 ∷ z) m (u + 1)) none)
    ∙ set-append_right p ((u + 1) ∷ 0 ∷ z) i n w long (omega arith)
    ∙ ap (λ m. p ++ set ((u + 1) ∷ 0 ∷ z) m w) past

next_at : (b p z : List ℕ) (i j n u v : ℕ) → j ≡ i + 1 → length p ≡ i → n ≡ i + 1 + length z → 0 < v → sum z ≡ 0 → p ++ (u ∷ v ∷ z) ≡ b → IsNext b (set (set (set b j 0) i (u + 1)) n (v - 1))
next_at b p z i j n u v after long end some none whole =
    let r : List ℕ = set (0 ∷ z) (length z) (v - 1) in
    let s : List ℕ = p ++ ((u + 1) ∷ r) in
    let is : IsNext (p ++ (u ∷ v ∷ z)) s
    = front_next p (u ∷ v ∷ z) ((u + 1) ∷ r)
    (tail_next z r (length z) u v refl some none
    (first_set (0 ∷ z) (length z) (v - 1) (omega arith) (omega (arith, sum-cons 0 z))))
    in
    let same : set (set (set b j 0) i (u + 1)) n (v - 1) ≡ s
    = ap (λ c. set (set (set c j 0) i (u + 1)) n (v - 1)) (sym whole)
    ∙ ap (λ k. set (set (set (p ++ (u ∷ v ∷ z)) k 0) i (u + 1)) n (v - 1)) after
    ∙ written p z i n u v (v - 1) long end
    in
    record {
      long = ap length same ∙ is.long ∙ ap length whole;
      stones = ap sum same ∙ is.stones ∙ ap sum whole;
      next = sym (ap larger whole) ∙ is.next ∙ ap (λ t. larger t + 1) (sym same);
    }

pub moved_next : (b : List ℕ) (i j n : ℕ) → j ≡ i + 1 → n + 1 ≡ length b → j ≤ n → 0 < get_or b j 0 → sum (drop (j + 1) b) ≡ 0 → IsNext b (set (set (set b j 0) i (get_or b i 0 + 1)) n (get_or b j 0 - 1))
moved_next b i j n after long in_range some none =
    let front : length (take i b) ≡ i = length-take-le i b (omega arith) in
    let rest : n ≡ i + 1 + length (drop (j + 1) b) = omega (arith, length-drop (j + 1) b) in
    let at_i : drop i b ≡ get_or b i 0 ∷ drop (i + 1) b = drop_more b i 0 (omega arith) in
    let at_j : drop j b ≡ get_or b j 0 ∷ drop (j + 1) b = drop_more b j 0 (omega arith) in
    let both : drop i b ≡ get_or b i 0 ∷ get_or b j 0 ∷ drop (j + 1) b
    = at_i ∙ ap (λ t. get_or b i 0 ∷ t) (ap (λ k. drop k b) (sym after) ∙ at_j)
    in
    next_at b (take i b) (drop (j + 1) b) i j n (get_or b i 0) (get_or b j 0) after front rest some none
    (ap (λ t. take i b ++ t) (sym both) ∙ take-append-drop i b)

-- no list is larger than one whose stones are all in its first pit
pub larger-first : (b : List ℕ) (n : ℕ) → length b ≡ suc n → sum (drop 1 b) ≡ 0 → larger b ≡ 0
larger-first [] n long none = refl
larger-first (x ∷ t) n long none =
    let rest : sum t ≡ 0 = none in
    omega (arith, larger-none t rest, total-zero (ways (length t)), ap (fewer (length t)) rest)

pub rank_of-next : {b s : List ℕ} → IsNext b s → length b ≡ 12 → rank_of s ≡ rank_of b + 1
rank_of-next {b} {s} is long =
    omega (
      arith,
      rank_of-larger b long,
      rank_of-larger s (omega (arith, is.long)),
      is.next,
      ap size_of is.stones,
    )

pub rank_of-before : {b s : List ℕ} → IsNext b s → length b ≡ 12 → rank_of b + 1 < size_of (sum b)
rank_of-before {b} {s} is long = omega (arith, rank_of-larger b long, is.next)

-- the board that `successor` writes into a copy of b
pub succeeded : {b pits : List ℕ} {held : ℕ} → pits ≡ b → IsBoard b → IsLastHeld pits held → 0 < held → IsNext b (set (set (set pits held 0) (held - 1) (get_or (set pits held 0) (held - 1) 0 + 1)) 11 (get_or pits held 0 - 1))
succeeded {b} {pits} {held} copied board last some =
    let size : 11 + 1 ≡ length pits = omega (arith, ap length copied, board.pits) in
    let kept : get_or (set pits held 0) (held - 1) 0 ≡ get_or pits (held - 1) 0
    = get_or-set_other pits held (held - 1) 0 0 (omega arith)
    in
    let is : IsNext pits (set (set (set pits held 0) (held - 1) (get_or pits (held - 1) 0 + 1)) 11 (get_or pits held 0 - 1))
    = moved_next pits (held - 1) held 11 (omega arith) size (omega (arith, last.in_range)) (last.holds some) last.none_after
    in
    rw kept
    (record {
      long = is.long ∙ ap length copied;
      stones = is.stones ∙ ap sum copied;
      next = sym (ap larger copied) ∙ is.next;
    })

-- where no pit after pit 0 holds stones, the board is the last
pub rank_of-last : {b pits : List ℕ} {held : ℕ} → pits ≡ b → IsBoard b → IsLastHeld pits held → held ≡ 0 → rank_of b + 1 ≡ size_of (sum b)
rank_of-last {b} {pits} {held} copied board last first =
    let none : sum (drop 1 b) ≡ 0
    = sym (ap (λ t. sum (drop 1 t)) copied) ∙ sym (ap (λ i. sum (drop (i + 1) pits)) first) ∙ last.none_after
    in
    omega (arith, rank_of-larger b board.pits, larger-first b 11 board.pits none)
