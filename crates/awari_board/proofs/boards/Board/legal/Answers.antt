use Rattle.std.proofs.Common.{rules, tests}
use Rattle.awari_board.proofs.Legal.{IsLegal-far}
use Rattle.awari_board.proofs.boards.Board.legal.Goals as goal

pub returns-then-pit-stones-ge-SIDE : goal.returns-then-pit-stones-ge-SIDE
returns-then-pit-stones-ge-SIDE c = search (rules, tests, IsLegal-far)

pub returns-else-pit-stones-ge-SIDE : goal.returns-else-pit-stones-ge-SIDE
returns-else-pit-stones-ge-SIDE c = search rules
