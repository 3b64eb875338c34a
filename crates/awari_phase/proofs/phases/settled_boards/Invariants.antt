use Rattle.std.proofs.Common.{◌≡◌, ◌*◌, ◌≤◌, ◌^◌, take}
use Rattle.awari_block.specs.Counts.{spread_in}
use Rattle.awari_phase.specs.Owners.{parts_of}
use Rattle.awari_phase.proofs.phases.settled_boards.Given as goal

abbrev pub invariant-loop-owner : goal.invariant-loop-owner
invariant-loop-owner l = record {
  counted : l.boards ≡ spread_in (take l.owner-index (parts_of l.owners));
  few : l.boards ≤ l.owner-index * 2 ^ 32;
}
