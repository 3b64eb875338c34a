use Rattle.std.proofs.Common.{◌-◌}
use Rattle.awari_boards.proofs.PlayLaws.{Counting}
use Rattle.awari_boards.proofs.counting.+counts_after.Given as goal

abbrev pub decreases-counts_after : goal.decreases-counts_after
decreases-counts_after l = l.plies

abbrev pub invariant-loop-pit : goal.invariant-loop-pit
invariant-loop-pit l = Counting (l.plies - 1) l.board l.pit l.counts
