use Rattle.std.proofs.Common.{◌-◌}
use Rattle.awari_board.proofs.Capturing.{IsCapturing}
use Rattle.awari_packed.specs.Packed.{IsPacking, pits_of}
use Rattle.awari_packed.proofs.captures.take_run.Given as goal

abbrev pub invariant-loop-end : goal.invariant-loop-end
invariant-loop-end l = record {
  packing : IsPacking l.left;
  so_far : IsCapturing (pits_of l.bits) l.last l.end l.taken (pits_of l.left);
}

abbrev pub decreases-loop-end : goal.decreases-loop-end
decreases-loop-end l = l.end - 6
