-- The line of play in which both sides follow the plans of a table.
use Rattle.std.specs.Prelude.{ℕ, ◌<◌, true, false, List, length, take, ℤ}
use Rattle.awari_game.specs.Plays.{Standing, start, IsPlay, IsOutcome, Follows}
use Rattle.awari_table.specs.Certificate.{Table}

-- The moves are a play from the board, in which each side plays what the plan says of each of its boards, and which has come to
-- this outcome. It is the first: no shorter beginning of the play has an outcome.
pub record IsBestLine (t : Table) (limit : ℕ) (board moves : List ℕ) (outcome : ℤ) : Type 0 where
  pub last : Standing
  pub play : IsPlay (start board) moves last
  pub first_follows : Follows t.plan true (start board) moves
  pub second_follows : Follows t.plan false (start board) moves
  pub ends : IsOutcome limit last outcome
  pub no_sooner : (n : ℕ) (s : Standing) (o : ℤ) → n < length moves → IsPlay (start board) (take n moves) s → IsOutcome limit s o → ⊥
