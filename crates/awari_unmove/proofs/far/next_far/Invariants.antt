use Rattle.std.proofs.Common.{◌≡◌, ◌-◌}
use Rattle.awari_unmove.specs.Undoing.{IsUndoingFrom, unmoves_from}
use Rattle.awari_unmove.proofs.far.next_far.Given as goal

abbrev pub invariant-loop-stones : goal.invariant-loop-stones
invariant-loop-stones l = record {
  undoing : IsUndoingFrom l.back l.pit l.stones l.last l.left;
  same : unmoves_from l.fn.back l.fn.pit l.fn.stones ≡ unmoves_from l.back l.pit l.stones;
}

abbrev pub decreases-loop-stones : goal.decreases-loop-stones
decreases-loop-stones l = 49 - l.stones
