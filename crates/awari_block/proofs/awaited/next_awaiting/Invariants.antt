use Rattle.std.proofs.Common.{◌-◌, ◌≤◌, length}
use Rattle.awari_block.specs.Awaited.{NoneAwait}
use Rattle.awari_block.proofs.awaited.next_awaiting.Given as goal

abbrev pub invariant-loop-index : goal.invariant-loop-index
invariant-loop-index l = record {
  later : l.from ≤ l.index;
  others : NoneAwait l.gain l.awaits l.from l.index;
}

abbrev pub decreases-loop-index : goal.decreases-loop-index
decreases-loop-index l = length l.awaits - l.index
