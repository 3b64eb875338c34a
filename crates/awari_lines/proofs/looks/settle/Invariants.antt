use Rattle.awari_lines.proofs.Settling.{SettledTo}
use Rattle.awari_lines.proofs.looks.settle.Given as goal

abbrev pub invariant-loop-j : goal.invariant-loop-j
invariant-loop-j g l = SettledTo l.fn.all l.all l.empty l.j 0

abbrev pub invariant-loop-i : goal.invariant-loop-i
invariant-loop-i g l = SettledTo l.fn.all l.all l.empty l.j l.i
