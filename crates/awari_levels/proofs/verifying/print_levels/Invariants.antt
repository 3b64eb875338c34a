use Rattle.std.proofs.Common.{take}
use Rattle.std.specs.Io.KnownBytes.{Appends}
use Rattle.awari_levels.specs.Folders.{right_lines}
use Rattle.awari_levels.proofs.verifying.print_levels.Given as goal

abbrev pub invariant-loop-level : goal.invariant-loop-level
invariant-loop-level g l = Appends (g.W.Write.contents l.fn.writer) (g.W.Write.contents l.writer) (right_lines (take l.level l.shelf))
