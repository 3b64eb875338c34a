use Rattle.awari_scan.proofs.RunMoves.{moves-none}
use Rattle.awari_scan.proofs.runs.moves_of.Goals as goal

pub loop-pit-init : goal.loop-pit-init
loop-pit-init c = λ p own stones. moves-none p

pub loop-pit-preserved : goal.loop-pit-preserved
loop-pit-preserved c = λ p own stones. c.with_move-moves.ensures p own stones (c.loop-pit.invariant p own stones)
