use Rattle.std.proofs.Common.{take}
use Rattle.std.specs.Io.KnownBytes.{Appends}
use Rattle.awari_boards.specs.Plies.{shown_plies}
use Rattle.awari_boards.proofs.plies.print_plies.Given as goal

abbrev pub invariant-loop-ply : goal.invariant-loop-ply
invariant-loop-ply g l = Appends (g.W.Write.contents l.fn.writer) (g.W.Write.contents l.writer) (shown_plies l.json (take l.ply-index l.plies))
