use Rattle.std.proofs.Common.{◌≡◌, ◌<◌, ℕ, get_or, vec_len}
use Rattle.awari_counts.specs.Sums.{lane_at, lane_sum}
use Rattle.awari_counts.proofs.sums.sums_of.Given as goal

abbrev pub invariant-loop-place : goal.invariant-loop-place
invariant-loop-place l = record {
  long : vec_len l.sums ≡ l.lanes.many;
  each : (k : ℕ) → k < l.place → get_or l.sums.items k 0 ≡ lane_sum l.counts (lane_at l.lanes k);
}
