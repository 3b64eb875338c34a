use Rattle.std.proofs.Common.{◌≤◌, ◌-◌, ◌+◌, length}
use Rattle.awari_play.specs.Least.{HasLowestPlans}
use Rattle.awari_builds.proofs.BuildLaws.{IsBuilt}
use Rattle.awari_builds.proofs.building.build_up.Given as goal

abbrev pub invariant-loop-builder : goal.invariant-loop-builder
invariant-loop-builder g l = record {
  built : IsBuilt l.fn.shelf l.shelf (g.W.Write.contents l.fn.writer) (g.W.Write.contents l.writer);
  planned : HasLowestPlans l.fn.shelf → HasLowestPlans l.shelf;
  no_more : length l.fn.shelf ≤ l.top + 1 → length l.shelf ≤ l.top + 1;
}

abbrev pub decreases-loop-builder : goal.decreases-loop-builder
decreases-loop-builder g l = l.top + 1 - length l.shelf
