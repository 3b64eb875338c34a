use Rattle.std.proofs.Common.{◌≡◌, ◌*◌, ◌^◌, ◌≤◌}
use Rattle.awari_builds.specs.Estimates.{boards_below}
use Rattle.awari_builds.proofs.estimates.boards_below.Given as goal

abbrev pub invariant-loop-below : goal.invariant-loop-below
invariant-loop-below l = record { is : l.boards ≡ boards_below l.below; few : l.boards ≤ l.below * 2 ^ 32 }
