use Rattle.std.proofs.Common.{◌≡◌, length, []}
use Rattle.awari_table.specs.Images.{table_of}
use Rattle.awari_build.specs.OnePart.{IsAlone, IsSoundPart}
use Rattle.awari_build.proofs.alone.settled_part.Given as goal

abbrev pub invariant-loop-part : goal.invariant-loop-part
invariant-loop-part g l = record {
  alone : IsAlone l.part l.outboxes;
  level : l.part.level ≡ length l.shelf;
  idle : l.part.fresh ≡ [];
  sound : IsSoundPart (table_of l.shelf).value l.part;
}

abbrev pub decreases-loop-part : goal.decreases-loop-part
decreases-loop-part g l = l.part.gain
