use Rattle.std.proofs.Common.{arith, rules}
use Rattle.awari_board.proofs.Legal.{IsLegal-far}
use Rattle.awari_packed.proofs.boards.PackedBoard.legal.Goals as goal

pub returns-then-pit-stones-ge-SIDE : goal.returns-then-pit-stones-ge-SIDE
returns-then-pit-stones-ge-SIDE c = (λ _. IsLegal-far c.args.self.now c.args.pit (omega arith) (omega (arith, c.pit-stones.ensures)) (omega (arith, c.pit-stones.ensures)), λ _. search rules)
