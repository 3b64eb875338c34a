use Rattle.std.proofs.Common.{◌-◌, IfSome}
use Rattle.awari_rank.specs.Rank.{size_of}
use Rattle.awari_index.specs.Runs.{AreRuns, IsHead}
use Rattle.awari_index.proofs.RunLists.{end_of}
use Rattle.awari_index.proofs.runs.runs_of.Given as goal

abbrev pub invariant-loop-head : goal.invariant-loop-head
invariant-loop-head l = record {
  runs : AreRuns l.level l.tails.starts.items l.runs.items (end_of l.level l.head);
  head : IfSome l.head (IsHead l.level);
}

abbrev pub decreases-loop-head : goal.decreases-loop-head
decreases-loop-head l = size_of l.level - end_of l.level l.head
