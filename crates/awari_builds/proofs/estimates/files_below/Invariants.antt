use Rattle.std.proofs.Common.{◌≡◌, ◌*◌, ◌^◌, ◌≤◌}
use Rattle.awari_builds.specs.Estimates.{files_below}
use Rattle.awari_builds.proofs.estimates.files_below.Given as goal

abbrev pub invariant-loop-below : goal.invariant-loop-below
invariant-loop-below l = record { is : l.bytes ≡ files_below l.below; few : l.bytes ≤ l.below * 2 ^ 36 }
