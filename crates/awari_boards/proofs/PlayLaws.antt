-- How many plays there are, counted pit by pit.
use Rattle.std.proofs.Common.{◌≡◌, ℕ, zero, suc, ◌+◌, ◌^◌, ◌<◌, ◌≤◌, Bool, true, false, cond, nat_lt, List, ℤ, Option, Some, None, IsNone, ◌↔◌, refl, sym, ◌∙◌, ap, arith}
use mir.Val.{bool_byte}
use Rattle.std.proofs.lemmas.Bool.{false≢true}
use Rattle.std.specs.Option.{is_some}
use Rattle.awari_answers.specs.declared.asked.NoAnswer.{NoAnswer}
use Rattle.awari_answers.specs.declared.asked.NoAnswer.TheVariants.{Memory, Overflow}
use Rattle.awari_board.proofs.Legal.{ended_is, legal_is}
use Rattle.awari_board.specs.Rules.{IsLegal, IsMove, captured, next_board}
use Rattle.awari_board.specs.Tests.{is_ended, is_legal}
use Rattle.awari_rank.proofs.Counting.{total-zero, total-add-one, total-grows}
use Rattle.awari_rank.specs.Tuples.{total}
use Rattle.awari_boards.specs.Plays.{AreCounts, IsUncounted, PlaysAreMost, by_move, one, one_if_captures, one_if_ended, over_plays}
use Rattle.awari_boards.specs.declared.sums.PlayCounts.{PlayCounts}

by_move-legal : (number : ℕ → List ℕ → ℕ) (board next : List ℕ) (x c : ℕ) → IsMove board x c next → by_move number board x ≡ number c next
unfolding by_move
by_move-legal number board next x c move =
    ap (λ b. cond b (number (captured board x) (next_board board x)) 0) ((legal_is board x).1 move.legal)
    ∙ ap (λ k. number k (next_board board x)) (sym move.captures) ∙ ap (number c) (sym move.leaves)

by_move-none : (number : ℕ → List ℕ → ℕ) (board : List ℕ) (x : ℕ) → (IsLegal board x → ⊥) → by_move number board x ≡ 0
unfolding by_move
by_move-none number board x none = go (is_legal board x) refl
  where
    go : (b : Bool) → is_legal board x ≡ b → cond (is_legal board x) (number (captured board x) (next_board board x)) 0 ≡ 0
    go true e = absurd (none ((legal_is board x).0 e))
    go false e = ap (λ b. cond b (number (captured board x) (next_board board x)) 0) e

pub over_plays-none : (number : ℕ → List ℕ → ℕ) (before : ℕ) (board : List ℕ) → over_plays number 0 before board ≡ number before board
unfolding over_plays
over_plays-none number before board = refl

over_plays-suc : (number : ℕ → List ℕ → ℕ) (n before : ℕ) (board : List ℕ) → over_plays number (suc n) before board ≡ total (by_move (over_plays number n) board) 6
unfolding over_plays
over_plays-suc number n before board = refl

total-le : (f g : ℕ → ℕ) (n : ℕ) → ((k : ℕ) → f k ≤ g k) → total f n ≤ total g n
unfolding total
total-le f g zero le = omega arith
total-le f g (suc n) le = omega (arith, total-le f g n le, le n)

by_move-le : (f g : ℕ → List ℕ → ℕ) (board : List ℕ) → ((c : ℕ) (b : List ℕ) → f c b ≤ g c b) → (x : ℕ) → by_move f board x ≤ by_move g board x
unfolding by_move
by_move-le f g board le x = go (is_legal board x)
  where
    go : (b : Bool) → cond b (f (captured board x) (next_board board x)) 0 ≤ cond b (g (captured board x) (next_board board x)) 0
    go true = le (captured board x) (next_board board x)
    go false = omega arith

over_plays-le : (f g : ℕ → List ℕ → ℕ) (n before : ℕ) (board : List ℕ) → ((c : ℕ) (b : List ℕ) → f c b ≤ g c b) → over_plays f n before board ≤ over_plays g n before board
unfolding over_plays
over_plays-le f g zero before board le = le before board
over_plays-le f g (suc n) before board le =
    total-le (by_move (over_plays f n) board) (by_move (over_plays g n) board) 6 (by_move-le (over_plays f n) (over_plays g n) board (λ c b. over_plays-le f g n c b le))

one-captures : (last : ℕ) (board : List ℕ) → one_if_captures last board ≤ one last board
one-captures last board = go (nat_lt 0 last)
  where
    go : (b : Bool) → cond b 1 0 ≤ 1
    go true = omega arith
    go false = omega arith

one-ended : (last : ℕ) (board : List ℕ) → one_if_ended last board ≤ one last board
one-ended last board = go (is_ended board)
  where
    go : (b : Bool) → cond b 1 0 ≤ 1
    go true = omega arith
    go false = omega arith

pub counts-fit : (n before : ℕ) (board : List ℕ) (counts : PlayCounts) → AreCounts n before board counts → PlaysAreMost counts
counts-fit n before board counts are = record {
  captures = omega (arith, are.captures, are.plays, over_plays-le one_if_captures one n before board one-captures);
  ends = omega (arith, are.ends, are.plays, over_plays-le one_if_ended one n before board one-ended);
}

-- the sums over the moves from the first pits
pub record Counting (n : ℕ) (board : List ℕ) (pits : ℕ) (counts : PlayCounts) : Type 0 where
  pub plays : counts.plays ≡ total (by_move (over_plays one n) board) pits
  pub captures : counts.captures ≡ total (by_move (over_plays one_if_captures n) board) pits
  pub ends : counts.ends ≡ total (by_move (over_plays one_if_ended n) board) pits

pub counting-fits : (n : ℕ) (board : List ℕ) (pits : ℕ) (counts : PlayCounts) → Counting n board pits counts → PlaysAreMost counts
counting-fits n board pits counts so_far = record {
  captures = omega (arith, so_far.captures, so_far.plays, total-le _ _ pits (by_move-le (over_plays one_if_captures n) (over_plays one n) board (λ c b. over_plays-le one_if_captures one n c b one-captures)));
  ends = omega (arith, so_far.ends, so_far.plays, total-le _ _ pits (by_move-le (over_plays one_if_ended n) (over_plays one n) board (λ c b. over_plays-le one_if_ended one n c b one-ended)));
}

pub counting-none : (n : ℕ) (board : List ℕ) (counts : PlayCounts) → counts.plays ≡ 0 → counts.captures ≡ 0 → counts.ends ≡ 0 → Counting n board 0 counts
counting-none n board counts plays captures ends = record {
  plays = plays ∙ sym (total-zero _);
  captures = captures ∙ sym (total-zero _);
  ends = ends ∙ sym (total-zero _);
}

-- a pit that is not legal
pub counting-skip : (n : ℕ) (board : List ℕ) (pit : ℕ) (counts : PlayCounts) → Counting n board pit counts → (IsLegal board pit → ⊥) → Counting n board (pit + 1) counts
counting-skip n board pit counts so_far none = record {
  plays = omega (arith, so_far.plays, total-add-one (by_move (over_plays one n) board) pit, by_move-none (over_plays one n) board pit none);
  captures = omega (arith, so_far.captures, total-add-one (by_move (over_plays one_if_captures n) board) pit, by_move-none (over_plays one_if_captures n) board pit none);
  ends = omega (arith, so_far.ends, total-add-one (by_move (over_plays one_if_ended n) board) pit, by_move-none (over_plays one_if_ended n) board pit none);
}

-- a move, and the plays after it
pub counting-more : (n : ℕ) (board next : List ℕ) (pit c : ℕ) (counts after sum : PlayCounts) → Counting n board pit counts → IsMove board pit c next → AreCounts n c next after
    → sum.plays ≡ counts.plays + after.plays → sum.captures ≡ counts.captures + after.captures → sum.ends ≡ counts.ends + after.ends → Counting n board (pit + 1) sum
counting-more n board next pit c counts after sum so_far move are plays captures ends = record {
  plays = omega (arith, so_far.plays, are.plays, plays, total-add-one (by_move (over_plays one n) board) pit, by_move-legal (over_plays one n) board next pit c move);
  captures = omega (arith, so_far.captures, are.captures, captures, total-add-one (by_move (over_plays one_if_captures n) board) pit, by_move-legal (over_plays one_if_captures n) board next pit c move);
  ends = omega (arith, so_far.ends, are.ends, ends, total-add-one (by_move (over_plays one_if_ended n) board) pit, by_move-legal (over_plays one_if_ended n) board next pit c move);
}

over_plays-pred : (number : ℕ → List ℕ → ℕ) (n plies before : ℕ) (board : List ℕ) → plies ≡ suc n → over_plays number plies before board ≡ total (by_move (over_plays number n) board) 6
over_plays-pred number n plies before board is = ap (λ p. over_plays number p before board) is ∙ over_plays-suc number n before board

pub counting-all : (n plies before : ℕ) (board : List ℕ) (pits : ℕ) (counts : PlayCounts) → Counting n board pits counts → plies ≡ suc n → pits ≡ 6 → AreCounts plies before board counts
counting-all n plies before board pits counts all is six = record {
  plays = all.plays ∙ ap (total (by_move (over_plays one n) board)) six ∙ sym (over_plays-pred one n plies before board is);
  captures = all.captures ∙ ap (total (by_move (over_plays one_if_captures n) board)) six ∙ sym (over_plays-pred one_if_captures n plies before board is);
  ends = all.ends ∙ ap (total (by_move (over_plays one_if_ended n) board)) six ∙ sym (over_plays-pred one_if_ended n plies before board is);
}

-- what the plays so far and those of one more move come to is no more than all
pub counting-bound : (n plies before : ℕ) (board next : List ℕ) (pit c most : ℕ) (counts : PlayCounts) → Counting n board pit counts → IsMove board pit c next → plies ≡ suc n → pit < 6
    → most ≤ counts.plays + over_plays one n c next → most ≤ over_plays one plies before board
counting-bound n plies before board next pit c most counts so_far move is inside large =
    let up : total (by_move (over_plays one n) board) (pit + 1) ≤ total (by_move (over_plays one n) board) 6 = total-grows _ (pit + 1) 6 (omega (arith, inside)) in
    omega (arith, large, so_far.plays, up, total-add-one (by_move (over_plays one n) board) pit, by_move-legal (over_plays one n) board next pit c move, over_plays-pred one n plies before board is)

-- why the plays after one more move are not counted holds of all of them
pub uncounted-on : (n plies before : ℕ) (board next : List ℕ) (pit c : ℕ) (counts : PlayCounts) (fault : NoAnswer) → Counting n board pit counts → IsMove board pit c next → plies ≡ suc n
    → pit < 6 → IsUncounted n c next fault → IsUncounted plies before board fault
uncounted-on n plies before board next pit c counts Overflow so_far move is inside large =
    counting-bound n plies before board next pit c (2 ^ 64) counts so_far move is inside (omega (arith, large))
uncounted-on n plies before board next pit c counts Memory so_far move is inside out = out
uncounted-on n plies before board next pit c counts other so_far move is inside none = none

-- a test as a number
pub byte-cond : (b : Bool) → bool_byte b ≡ cond b 1 0
byte-cond true = refl
byte-cond false = refl

-- no end, and a legal pit
pub ended-some : (board : List ℕ) (end : Option ℤ) → (IsNone end ↔ ((x : ℕ) × IsLegal board x)) → is_some end ≡ is_ended board
ended-some board None told = go (is_ended board) refl
  where
    go : (b : Bool) → is_ended board ≡ b → false ≡ b
    go true e = let legal = told.0 refl in absurd ((ended_is board).0 e legal.0 legal.1)
    go false e = refl
ended-some board (Some gain) told = sym ((ended_is board).1 (λ x legal. false≢true (sym (told.1 (x, legal)))))
