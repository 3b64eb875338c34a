use Rattle.std.proofs.Common.{◌≡◌, ◌^◌, length, take}
use Rattle.awari_segments.specs.Segments.{Finds}
use Rattle.awari_segments.proofs.finding.find_batch.Given as goal

abbrev pub invariant-loop-k : goal.invariant-loop-k
invariant-loop-k l = record {
  places : length l.targets ≡ length l.initial.targets;
  found : Finds l.index (2 ^ l.log) (take l.k l.ranks) l.initial.lists l.lists;
}
