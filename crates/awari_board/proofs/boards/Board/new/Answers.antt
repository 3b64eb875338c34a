use Rattle.std.proofs.Common.{refl}
use Rattle.awari_board.proofs.boards.Board.new.Goals as goal

pub returns-clause-pits : goal.returns-clause-pits
returns-clause-pits c = refl
