use Rattle.std.proofs.Common.{◌≡◌, ◌++◌, All}
use Rattle.awari_block.specs.Part.{IsClosed}
use Rattle.awari_segments.proofs.segments.closed_all.Given as goal

abbrev pub invariant-loop-segment : goal.invariant-loop-segment
invariant-loop-segment l = record {
  whole : l.yielded ++ l.segment-iterator.rest.items ≡ l.fn.segments.items;
  closed : All IsClosed l.segment-iterator.rest.items;
  parts : l.parts.items ≡ l.yielded;
}
