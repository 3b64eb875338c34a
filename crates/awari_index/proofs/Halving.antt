-- The rank of a board by its halves.
use Rattle.std.proofs.Common.{◌≡◌, ℕ, zero, suc, ◌+◌, ◌-◌, ◌<◌, ◌≤◌, List, [], ◌∷◌, ◌++◌, length, sum, get_or, set, take, drop, refl, sym, ◌∙◌, ap, subst, arith, length-append}
use Rattle.std.proofs.lemmas.List.{drop_at, get_or-drop, get_or_default, length-take-le}
use Rattle.std.proofs.lemmas.List.Sums.{sum_by-append, sum_by-take-drop}
use Rattle.awari_board.specs.Rules.{IsBoard, own_stones}
use Rattle.awari_rank.specs.Fillings.{last_of, none}
use Rattle.awari_rank.specs.Rank.{rank_of, size_of}
use Rattle.awari_rank.proofs.Fillings.{first_fillings, halved, place}
use Rattle.awari_rank.proofs.Ranking.{larger, rank_of-larger, rank_of-below, rank_fixes}
use Rattle.awari_rank.proofs.Succeeding.{IsFirst, first_set, larger-first, moved_next, rank_of-next}
use Rattle.awari_index.specs.Runs.{AreAllTails, IsBoardAt, IsHead, IsTail, board_in, fillings, first_of}
use Rattle.awari_index.specs.declared.runs.Run.{Run}

-- ---- a head and a tail

no_larger : (k : ℕ) → 1 + larger (none ++ first_of k) ≡ size_of k
unfolding size_of
no_larger k = let f : IsFirst 12 k (none ++ first_of k) = first_set (none ++ none) 11 k refl refl in omega (arith, f.first)

pub rank_none : (k : ℕ) → rank_of (none ++ first_of k) ≡ 0
rank_none k =
    let stones : sum (none ++ first_of k) ≡ k = omega arith in
    omega (arith, rank_of-larger (none ++ first_of k) refl, no_larger k, ap size_of stones)

-- the board of a head with the other pits of a tail comes as far behind the head as the tail behind the first
pub joined_at : (n r k j : ℕ) (p t : List ℕ) → IsBoardAt n r p → drop 6 p ≡ first_of k → IsTail k j t → IsBoardAt n (r + j) (take 6 p ++ drop 6 t)
joined_at n r k j p t head rest tail =
    let h = halved p head.board.pits in
    let h' = halved t tail.at.board.pits in
    let own : own_stones t ≡ 0 = ap sum tail.own in
    let of_first : sum (first_of k) ≡ k = omega arith in
    let others : sum (drop 6 p) ≡ k = ap sum rest ∙ of_first in
    let stones : sum (take 6 p ++ drop 6 t) ≡ n = omega (arith, sum_by-append (λ x. x) (take 6 p) (drop 6 t), h.stones, h'.stones, own, others, head.stones, tail.at.stones) in
    record {
      board = record { pits = omega (arith, length-append (take 6 p) (drop 6 t), h.front, h'.back); stones = omega (arith, stones, head.stones, head.board.stones) };
      stones = stones;
      rank = omega (
        arith,
        place p t head.board.pits tail.at.board.pits own (tail.at.stones ∙ sym others),
        ap (λ (l : List ℕ). rank_of (none ++ l)) rest ∙ rank_none k,
        head.rank,
        tail.at.rank,
      );
    }

-- up to the last filling no board has own stones
pub tail_at : (k j : ℕ) (p : List ℕ) → IsBoardAt k j p → j ≤ rank_of (none ++ last_of k) → IsTail k j p
tail_at k j p at most = record { at = at; own = first_fillings k p at.board.pits at.stones (omega (arith, at.rank, most)) }

-- ---- the run after a run

-- where the last stones of a board move, and the board after it
moved : (b next : List ℕ) (i j : ℕ) → j ≡ i + 1 → length b ≡ 12 → j ≤ 11 → 0 < get_or b j 0 → sum (drop (j + 1) b) ≡ 0 → length next ≡ 12 → sum next ≡ sum b → rank_of next ≡ rank_of b + 1
    → next ≡ set (set (set b j 0) i (get_or b i 0 + 1)) 11 (get_or b j 0 - 1)
moved b next i j after long inside some rest long' stones rank =
    let is = moved_next b i j 11 after (sym long) inside some rest in
    rank_fixes next _ long' (is.long ∙ long) (stones ∙ sym is.stones) (rank ∙ sym (rank_of-next is long))

next_head : (a b c d e f k : ℕ) (next : List ℕ) → length next ≡ 12 → sum next ≡ sum (a ∷ b ∷ c ∷ d ∷ e ∷ f ∷ last_of k) → rank_of next ≡ rank_of (a ∷ b ∷ c ∷ d ∷ e ∷ f ∷ last_of k) + 1
    → (m : ℕ) × (drop 6 next ≡ first_of m)
next_head a b c d e f (suc k) next long stones rank =
    (k, ap (drop 6) (moved (a ∷ b ∷ c ∷ d ∷ e ∷ f ∷ last_of (suc k)) next 5 6 refl refl (omega arith) (omega arith) refl long stones rank) ∙ ap first_of (let e : suc k - 1 ≡ k = omega arith in e))
next_head a b c d e (suc f) zero next long stones rank =
    (f, ap (drop 6) (moved (a ∷ b ∷ c ∷ d ∷ e ∷ suc f ∷ last_of 0) next 4 5 refl refl (omega arith) (omega arith) refl long stones rank) ∙ ap first_of (let e : suc f - 1 ≡ f = omega arith in e))
next_head a b c d (suc e) zero zero next long stones rank =
    (e, ap (drop 6) (moved (a ∷ b ∷ c ∷ d ∷ suc e ∷ 0 ∷ last_of 0) next 3 4 refl refl (omega arith) (omega arith) refl long stones rank) ∙ ap first_of (let h : suc e - 1 ≡ e = omega arith in h))
next_head a b c (suc d) zero zero zero next long stones rank =
    (d, ap (drop 6) (moved (a ∷ b ∷ c ∷ suc d ∷ 0 ∷ 0 ∷ last_of 0) next 2 3 refl refl (omega arith) (omega arith) refl long stones rank) ∙ ap first_of (let e : suc d - 1 ≡ d = omega arith in e))
next_head a b (suc c) zero zero zero zero next long stones rank =
    (c, ap (drop 6) (moved (a ∷ b ∷ suc c ∷ 0 ∷ 0 ∷ 0 ∷ last_of 0) next 1 2 refl refl (omega arith) (omega arith) refl long stones rank) ∙ ap first_of (let e : suc c - 1 ≡ c = omega arith in e))
next_head a (suc b) zero zero zero zero zero next long stones rank =
    (b, ap (drop 6) (moved (a ∷ suc b ∷ 0 ∷ 0 ∷ 0 ∷ 0 ∷ last_of 0) next 0 1 refl refl (omega arith) (omega arith) refl long stones rank) ∙ ap first_of (let e : suc b - 1 ≡ b = omega arith in e))
next_head a zero zero zero zero zero zero next long stones rank =
    absurd (
    let all : List ℕ = a ∷ 0 ∷ 0 ∷ 0 ∷ 0 ∷ 0 ∷ last_of 0 in
    omega (arith, rank, rank_of-below next long, ap size_of stones, rank_of-larger all refl, larger-first all 11 refl refl))

-- the board after the last of a run is the first of a run
pub head_after : (n r k : ℕ) (last next : List ℕ) → IsBoardAt n r last → drop 6 last ≡ last_of k → IsBoardAt n (r + 1) next → (m : ℕ) × (drop 6 next ≡ first_of m)
head_after n r k (a ∷ b ∷ c ∷ d ∷ e ∷ f ∷ xs) next at rest at' =
    let same : a ∷ b ∷ c ∷ d ∷ e ∷ f ∷ xs ≡ a ∷ b ∷ c ∷ d ∷ e ∷ f ∷ last_of k = ap (λ (l : List ℕ). a ∷ b ∷ c ∷ d ∷ e ∷ f ∷ l) rest in
    next_head a b c d e f k next at'.board.pits (at'.stones ∙ sym at.stones ∙ ap sum same) (at'.rank ∙ ap (λ m. m + 1) (sym at.rank ∙ ap rank_of same))
head_after n r k [] next at rest at' = absurd (let long = at.board.pits in omega (arith, long))
head_after n r k (a ∷ []) next at rest at' = absurd (let long = at.board.pits in omega (arith, long))
head_after n r k (a ∷ b ∷ []) next at rest at' = absurd (let long = at.board.pits in omega (arith, long))
head_after n r k (a ∷ b ∷ c ∷ []) next at rest at' = absurd (let long = at.board.pits in omega (arith, long))
head_after n r k (a ∷ b ∷ c ∷ d ∷ []) next at rest at' = absurd (let long = at.board.pits in omega (arith, long))
head_after n r k (a ∷ b ∷ c ∷ d ∷ e ∷ []) next at rest at' = absurd (let long = at.board.pits in omega (arith, long))

-- ---- the last board of a run

-- k stones of n lie in pits 6 to 11
pub few_rest : (n r k : ℕ) (p : List ℕ) → IsBoardAt n r p → drop 6 p ≡ first_of k → k ≤ n
few_rest n r k p at rest =
    let parts = sum_by-take-drop (λ x. x) p 6 in
    let right : sum (drop 6 p) ≡ k = ap sum rest ∙ (let e : sum (first_of k) ≡ k = omega arith in e) in
    let stones = at.stones in
    omega (arith, parts, right, stones)

-- this is the board of the run at a place of its fillings
pub run_board : (n : ℕ) (run : Run) (starts : List ℕ) (boards : List (List ℕ)) (j : ℕ) (d : List ℕ) → IsHead n run → AreAllTails (n + 1) starts boards → j < fillings starts run.stones
    → IsBoardAt n (run.start + j) (take 6 run.board ++ drop 6 (get_or boards (get_or starts run.stones 0 + j) d))
run_board n run starts boards j d head all inside =
    let tails = all.each run.stones (let few = few_rest n run.start run.stones run.board head.at head.rest in omega (arith, few)) in
    let within = tails.within in
    subst (λ (t : List ℕ). IsBoardAt n (run.start + j) (take 6 run.board ++ drop 6 t)) (sym (get_or_default boards (get_or starts run.stones 0 + j) d [] (omega (arith, within, inside))))
    (joined_at n run.start run.stones j run.board (board_in boards (get_or starts run.stones 0 + j)) head.at head.rest (tails.each j inside))

pub record IsRunEnd (n : ℕ) (run : Run) (starts : List ℕ) (last : List ℕ) : Type 0 where
  pub some : 0 < fillings starts run.stones
  pub at : IsBoardAt n (run.start + (fillings starts run.stones - 1)) last
  pub rest : drop 6 last ≡ last_of run.stones

pub run_end : (n : ℕ) (run : Run) (starts : List ℕ) (boards : List (List ℕ)) (e : ℕ) (d last : List ℕ) → IsHead n run → AreAllTails (n + 1) starts boards → e ≡ get_or starts (run.stones + 1) e
    → last ≡ take 6 run.board ++ drop 6 d → d ≡ get_or boards (e - 1) d → IsRunEnd n run starts last
run_end n run starts boards e d last head all at_e is at_d =
    let few = few_rest n run.start run.stones run.board head.at head.rest in
    let tails = all.each run.stones (omega (arith, few)) in
    let some = tails.some in
    let within = tails.within in
    let long = all.long in
    let end : e ≡ get_or starts (run.stones + 1) 0 = at_e ∙ get_or_default starts (run.stones + 1) e 0 (omega (arith, few, long)) in
    let at : get_or starts run.stones 0 + (fillings starts run.stones - 1) ≡ e - 1 = omega (arith, some, end) in
    let place : get_or starts (run.stones + 1) 0 - 1 ≡ e - 1 = omega (arith, end) in
    let front : length (take 6 run.board) ≡ 6 = length-take-le 6 run.board (let l = head.at.board.pits in omega (arith, l)) in
    let here : d ≡ none ++ last_of run.stones = at_d ∙ get_or_default boards (e - 1) d [] (omega (arith, within, end, some)) ∙ ap (board_in boards) (sym place) ∙ tails.last in
    record {
      some = omega (arith, some);
      at = subst (IsBoardAt n (run.start + (fillings starts run.stones - 1))) (sym (is ∙ ap (λ (t : List ℕ). take 6 run.board ++ drop 6 t) at_d))
          (subst (λ (m : ℕ). IsBoardAt n (run.start + (fillings starts run.stones - 1)) (take 6 run.board ++ drop 6 (get_or boards m d))) at
          (run_board n run starts boards (fillings starts run.stones - 1) d head all (omega (arith, some))));
      rest = ap (drop 6) is ∙ ap (λ (t : List ℕ). drop 6 (take 6 run.board ++ drop 6 t)) here ∙ drop_at (take 6 run.board) (last_of run.stones) 6 front;
    }

-- the run that begins behind it
pub next_run : (n r : ℕ) (k : ℕ) (last next : List ℕ) → IsBoardAt n r last → drop 6 last ≡ last_of k → IsBoard next → sum next ≡ sum last → rank_of next ≡ rank_of last + 1
    → IsHead n (record { board = next; start = rank_of next; stones = get_or next 11 0 }) × (rank_of next ≡ r + 1)
next_run n r k last next at rest board stones rank =
    let here : IsBoardAt n (r + 1) next = record { board = board; stones = stones ∙ at.stones; rank = rank ∙ ap (λ m. m + 1) at.rank } in
    let head = head_after n r k last next at rest here in
    let m : ℕ = head.0 in
    let eleven : get_or next 11 0 ≡ m = sym (get_or-drop 6 next 5 0) ∙ ap (λ (l : List ℕ). get_or l 5 0) head.1 in (
      record { at = record { board = board; stones = here.stones; rank = refl }; rest = head.1 ∙ ap first_of (sym eleven) },
      here.rank,
    )
