use Rattle.std.proofs.Common.{◌<◌, ℕ}
use Rattle.awari_exports.specs.Files.{IsSized}
use Rattle.awari_exports.proofs.files.is_long_as_some.Given as goal

abbrev pub invariant-loop-level : goal.invariant-loop-level
invariant-loop-level l = (n : ℕ) → n < l.level → IsSized n l.bytes → ⊥
