-- A play that is shown, and the same with one more pit.
use Rattle.std.proofs.Common.{◌≡◌, ℕ, ◌+◌, ◌==◌, if◌then◌else◌, Bool, true, false, min, not, ℤ, neg_ℤ, ◌+ℤ◌, ◌-ℤ◌, ◌≤ℤ◌, List, [], ◌∷◌, ◌++◌, pos, ap, ◌∙◌, subst, arith}
use Rattle.std.proofs.lemmas.Bool.Decides.{nat_tests}
use Rattle.std.proofs.lemmas.Int.{ints}
use Rattle.awari_board.specs.Rules.{IsLegal, IsMove, captured, next_board}
use Rattle.awari_game.specs.Plays.{Standing, start, after, signed, IsPlay}
use Rattle.awari_game.specs.Shown.{greatest_u64, IsShown, Shows}

-- what is seen after a move, by what was seen before it
pub record IsStep (seen : Standing) (pit : ℕ) (taken : ℕ) (later : Standing) : Type 0 where
  pub move : IsMove seen.board pit taken later.board
  pub running : later.running ≡ signed seen.first_moves seen.running (pos taken)
  pub first_moves : later.first_moves ≡ not seen.first_moves
  pub quiet : later.quiet ≡ (if taken == 0 then min (seen.quiet + 1) greatest_u64 else 0)

-- a play with one more pit
IsPlay-more : (pits : List ℕ) (from to : Standing) (pit : ℕ) → IsPlay from pits to → IsLegal to.board pit → IsPlay from (pits ++ pit ∷ []) (after to pit)
IsPlay-more [] from to pit play legal = (subst (λ (s : Standing). IsLegal s.board pit) play legal, ap (λ (s : Standing). after s pit) play)
IsPlay-more (x ∷ xs) from to pit play legal = (play.0, IsPlay-more xs (after from x) to pit play.1 legal)

quiet_stays : (taken quiet : ℕ) → (if taken == 0 then min (min quiet greatest_u64 + 1) greatest_u64 else 0) ≡ min (if taken == 0 then quiet + 1 else 0) greatest_u64
quiet_stays taken quiet = grind (arith, nat_tests)

IsShown-step : (seen later s : Standing) (pit taken : ℕ) → IsStep seen pit taken later → IsShown seen s → IsShown later (after s pit)
IsShown-step seen later s pit taken step shown =
    let takes : taken ≡ captured s.board pit = step.move.captures ∙ ap (λ board. captured board pit) shown.board in
    record {
      board = step.move.leaves ∙ ap (λ board. next_board board pit) shown.board;
      running = rw (← takes, ← shown.running, ← shown.first_moves) step.running;
      first_moves = step.first_moves ∙ ap not shown.first_moves;
      quiet = step.quiet ∙ ap (λ quiet. if taken == 0 then min (quiet + 1) greatest_u64 else 0) shown.quiet ∙ quiet_stays taken s.quiet ∙ ap (λ n. min (if n == 0 then s.quiet + 1 else 0) greatest_u64) takes;
    }

pub Shows-step : (seen later : Standing) (pit taken : ℕ) → IsStep seen pit taken later → (board pits : List ℕ) → Shows seen board pits → Shows later board (pits ++ pit ∷ [])
Shows-step seen later pit taken step board pits shows =
    let legal : IsLegal shows.standing.board pit = subst (λ b. IsLegal b pit) shows.shown.board step.move.legal in
    record {
      standing = after shows.standing pit;
      play = IsPlay-more pits (start board) shows.standing pit shows.play legal;
      shown = IsShown-step seen later shows.standing pit taken step shows.shown;
    }

-- the stones that are captured, and those that are left, are together those that were there
pub running_kept : (first : Bool) (before later : ℤ) (stones left taken : ℕ) → later ≡ signed first before (pos taken) → left + taken ≡ stones
    → neg_ℤ (pos 48) ≤ℤ (before -ℤ pos stones) → (before +ℤ pos stones) ≤ℤ pos 48
    → (neg_ℤ (pos 48) ≤ℤ (later -ℤ pos left)) × ((later +ℤ pos left) ≤ℤ pos 48)
running_kept true before later stones left taken is kept low high = (omega (arith, ints), omega (arith, ints))
running_kept false before later stones left taken is kept low high = (omega (arith, ints), omega (arith, ints))
