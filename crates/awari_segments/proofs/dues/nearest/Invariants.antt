use Rattle.awari_segments.proofs.NearestDue.{IsDueBelow}
use Rattle.awari_segments.proofs.dues.nearest.Given as goal

abbrev pub invariant-loop-segment : goal.invariant-loop-segment
invariant-loop-segment l = IsDueBelow l.segments l.segment-index l.least
