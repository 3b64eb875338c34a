use Rattle.std.proofs.Common.{◌≡◌, ◌+◌, ◌*◌, get_or}
use Rattle.awari_rank.specs.Tuples.{total}
use Rattle.awari_counts.proofs.sums.add_up.Given as goal

abbrev pub invariant-loop-cell : goal.invariant-loop-cell
invariant-loop-cell l = l.boards ≡ total (λ k. get_or l.counts (l.lane.first + k * l.lane.step) 0) l.cell
