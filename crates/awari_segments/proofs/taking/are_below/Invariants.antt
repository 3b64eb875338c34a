use Rattle.std.proofs.Common.{ℕ, ◌<◌, slice_index_or}
use Rattle.awari_segments.proofs.taking.are_below.Given as goal

abbrev pub invariant-loop-rank : goal.invariant-loop-rank
invariant-loop-rank l = (k d : ℕ) → k < l.rank-index → slice_index_or l.ranks k d < l.end
