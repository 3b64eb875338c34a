use Rattle.std.proofs.Common.{◌≡◌, ◌-◌, ◌^◌, ℕ, List, drop, length}
use Rattle.awari_segments.specs.Segments.{Finds}
use Rattle.awari_segments.proofs.finding.find.Given as goal

abbrev pub invariant-loop-start : goal.invariant-loop-start
invariant-loop-start l = record {
  places : length l.targets ≡ length l.initial.targets;
  found : (new : List (List ℕ)) → Finds l.index (2 ^ l.log) (drop l.start l.ranks) l.lists new → Finds l.index (2 ^ l.log) l.ranks l.initial.lists new;
}

abbrev pub decreases-loop-start : goal.decreases-loop-start
decreases-loop-start l = length l.ranks - l.start
