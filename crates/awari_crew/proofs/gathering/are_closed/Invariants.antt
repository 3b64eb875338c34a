use Rattle.std.proofs.Common.{ℕ, ◌<◌, slice_index_or}
use Rattle.awari_block.specs.Part.{Part, IsClosed}
use Rattle.awari_crew.proofs.gathering.are_closed.Given as goal

abbrev pub invariant-loop-segment : goal.invariant-loop-segment
invariant-loop-segment l = (k : ℕ) (d : Part) → k < l.segment-index → IsClosed (slice_index_or l.segments k d)
