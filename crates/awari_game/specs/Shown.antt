-- What a game shows of a play.
use Rattle.std.specs.Prelude.{◌≡◌, ℕ, List, min}
use Rattle.awari_game.specs.Plays.{Standing, start, IsPlay}

-- the greatest u64
abbrev pub greatest_u64 : ℕ
greatest_u64 = 0xFFFF_FFFF_FFFF_FFFF

-- What is seen is the standing, with as many quiet plies as fit a u64: their number, or the greatest u64 where it is above that.
pub record IsShown (seen s : Standing) : Type 0 where
  pub board : seen.board ≡ s.board
  pub running : seen.running ≡ s.running
  pub first_moves : seen.first_moves ≡ s.first_moves
  pub quiet : seen.quiet ≡ min s.quiet greatest_u64

-- The pits are a play from the board, and what is seen is where it stands.
pub record Shows (seen : Standing) (board pits : List ℕ) : Type 0 where
  pub standing : Standing
  pub play : IsPlay (start board) pits standing
  pub shown : IsShown seen standing
