use Rattle.std.proofs.Common.{take}
use Rattle.std.specs.Fmt.{HasWritten, IsPlainFormatter}
use Rattle.awari_boards.specs.Lines.{moves_text}
use Rattle.awari_boards.proofs.lines.MovesDisplay.fmt.Given as goal

abbrev pub invariant-loop-pit : goal.invariant-loop-pit
invariant-loop-pit g l =
    IsPlainFormatter l.initial.f
    → HasWritten g.W.Write.write_str_gives l.initial.f (moves_text (take l.pit-index l.pit-items)) l.f
