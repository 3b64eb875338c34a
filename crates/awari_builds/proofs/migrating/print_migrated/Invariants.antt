use Rattle.std.proofs.Common.{take}
use Rattle.std.specs.Io.KnownBytes.{Appends}
use Rattle.awari_builds.specs.Migrating.{migrated_lines}
use Rattle.awari_builds.proofs.migrating.print_migrated.Given as goal

abbrev pub invariant-loop-level : goal.invariant-loop-level
invariant-loop-level g l = Appends (g.W.Write.contents l.fn.writer) (g.W.Write.contents l.writer) (migrated_lines (take l.level l.migrated))
