use Rattle.awari_play.specs.Least.{NoFarther}
use Rattle.awari_play.specs.Lowering.{AreAbove, AreBelowTo, all_plies}
use Rattle.awari_play.proofs.lowering.lower.Given as goal

abbrev pub invariant-loop-near : goal.invariant-loop-near
invariant-loop-near l = record {
  nearer : NoFarther l.fn.entries.items l.entries.items;
  above : AreAbove l.shelf l.entries.items;
  below : AreBelowTo l.near l.shelf l.entries.items;
}

abbrev pub decreases-loop-near : goal.decreases-loop-near
decreases-loop-near l = all_plies l.entries.items
