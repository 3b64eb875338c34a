use Rattle.awari_board.proofs.Keeping.{IsBoard-next, sum-from_IsMove}
use Rattle.awari_board.proofs.laws.moves_keep_boards.Goals as goal

pub returns-clause-board : goal.returns-clause-board
returns-clause-board c board next x captured = IsBoard-next board x captured next

pub returns-clause-stones : goal.returns-clause-stones
returns-clause-stones c board next x captured whole = sum-from_IsMove board x captured next whole.pits
