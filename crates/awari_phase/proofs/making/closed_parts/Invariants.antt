use Rattle.std.proofs.Common.{◌≡◌, ◌++◌, All}
use Rattle.awari_block.specs.Part.{IsClosed}
use Rattle.awari_phase.specs.Owners.{parts_of}
use Rattle.awari_phase.proofs.making.closed_parts.Given as goal

abbrev pub invariant-loop-owner : goal.invariant-loop-owner
invariant-loop-owner l = record {
  whole : l.yielded ++ l.owner-iterator.rest.items ≡ l.fn.owners.items;
  closed : All IsClosed (parts_of l.owner-iterator.rest.items);
  parts : l.parts.items ≡ parts_of l.yielded;
}
