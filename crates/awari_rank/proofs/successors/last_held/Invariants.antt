use Rattle.std.proofs.Common.{◌≡◌, ◌+◌, ◌<◌, sum, drop}
use Rattle.awari_rank.proofs.successors.last_held.Given as goal

abbrev pub invariant-loop-pit : goal.invariant-loop-pit
invariant-loop-pit l = record { in_range : l.pit < 12; none_after : sum (drop (l.pit + 1) l.pits) ≡ 0 }

abbrev pub decreases-loop-pit : goal.decreases-loop-pit
decreases-loop-pit l = l.pit
