use Rattle.std.proofs.Common.{◌≡◌, ◌*◌, ◌≤◌, ◌^◌, take}
use Rattle.awari_block.specs.Counts.{spread_in}
use Rattle.awari_segments.proofs.sliced.SlicedLevel.boards_spread.Given as goal

abbrev pub invariant-loop-segment : goal.invariant-loop-segment
invariant-loop-segment l = record {
  counted : l.boards ≡ spread_in (take l.segment-index l.segment-items);
  few : l.boards ≤ l.segment-index * 2 ^ 32;
}
