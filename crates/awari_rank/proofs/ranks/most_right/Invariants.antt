use Rattle.std.proofs.Common.{◌+◌, ◌-◌, ◌<◌, ◌≤◌}
use Rattle.awari_rank.specs.Tuples.{fewer}
use Rattle.awari_rank.proofs.ranks.most_right.Given as goal

abbrev pub invariant-loop-right : goal.invariant-loop-right
invariant-loop-right l = record {
  limit : l.right ≤ l.limit;
  most : l.right < l.limit → l.larger < fewer (11 - l.pit) (l.right + 1);
}

abbrev pub decreases-loop-right : goal.decreases-loop-right
decreases-loop-right l = l.right
