use Rattle.std.proofs.Common.{take}
use Rattle.std.specs.Fmt.{HasWritten, IsPlainFormatter}
use Rattle.awari_members.specs.Members.{later_pits}
use Rattle.awari_members.proofs.values.LaterPitsDisplay.fmt.Given as goal

abbrev pub invariant-loop-pit : goal.invariant-loop-pit
invariant-loop-pit g l =
    IsPlainFormatter l.initial.f
    → HasWritten g.W.Write.write_str_gives l.initial.f (later_pits (take l.pit-index l.pit-items)) l.f
