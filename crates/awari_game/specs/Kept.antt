-- What the fields of a game say.
use Rattle.std.specs.Prelude.{sum, pos, neg_ℤ, ◌+ℤ◌, ◌-ℤ◌, ◌≤ℤ◌}
use Rattle.awari_board.specs.Rules.{IsBoard}
use Rattle.awari_game.specs.Plays.{Standing}
use Rattle.awari_game.specs.declared.games.Game.TheInside.{Inside}

-- the standing that the fields show, and back
abbrev pub standing_of : Inside → Standing
standing_of game = record { board = game.board; running = game.running; first_moves = game.first_moves; quiet = game.quiet }

abbrev pub fields_of : Standing → Inside
fields_of s = record { board = s.board; running = s.running; first_moves = s.first_moves; quiet = s.quiet }

-- What one side captured more than the other and the stones on the board are together at most all 48.
pub record KeepsStones (game : Inside) : Type 0 where
  pub board : IsBoard game.board
  pub low : neg_ℤ (pos 48) ≤ℤ (game.running -ℤ pos (sum game.board))
  pub high : (game.running +ℤ pos (sum game.board)) ≤ℤ pos 48
