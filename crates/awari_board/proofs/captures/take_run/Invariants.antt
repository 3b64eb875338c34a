use Rattle.std.proofs.Common.{◌-◌}
use Rattle.awari_board.proofs.Capturing.{IsCapturing}
use Rattle.awari_board.proofs.captures.take_run.Given as goal

abbrev pub invariant-loop-end : goal.invariant-loop-end
invariant-loop-end l = IsCapturing l.fn.pits l.last l.end l.taken l.pits

abbrev pub decreases-loop-end : goal.decreases-loop-end
decreases-loop-end l = l.end - 6
