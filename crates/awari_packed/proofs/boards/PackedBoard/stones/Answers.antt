use Rattle.std.proofs.Common.{rules}
use Rattle.awari_packed.proofs.Whole.{IsBoard-pits_of}
use Rattle.awari_packed.proofs.boards.PackedBoard.stones.Goals as goal

pub returns-clause-board : goal.returns-clause-board
returns-clause-board c = rw (← c.self.view_is) (IsBoard-pits_of c.self.inside.bits c.self.invariant)

pub returns-clause-stones : goal.returns-clause-stones
returns-clause-stones c = search rules
