use Rattle.std.proofs.Common.{ℕ, ◌^◌, ◌<◌, take, slice_index_or}
use Rattle.awari_block.specs.Part.{Part}
use Rattle.awari_heard.specs.Level.{AreBlocks}
use Rattle.awari_crew.specs.Gathered.{IsAligned}
use Rattle.awari_crew.proofs.gathering.are_blocks.Given as goal

abbrev pub invariant-loop-segment : goal.invariant-loop-segment
invariant-loop-segment l = record {
  blocks : AreBlocks l.level 0 l.low (take l.segment-index l.segments);
  aligned : (k : ℕ) (d : Part) → k < l.segment-index → IsAligned (2 ^ l.log) (slice_index_or l.segments k d);
}
