use Rattle.std.proofs.Common.{◌≡◌, ◌+◌, map}
use Rattle.awari_exports.specs.Files.{AreSized}
use Rattle.awari_exports.proofs.files.first_misfit.Given as goal

abbrev pub invariant-loop-level : goal.invariant-loop-level
invariant-loop-level l = (l.level-end ≡ l.highest + 1) × AreSized (map (λ file. file.now) l.files) l.level
