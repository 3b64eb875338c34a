use Rattle.std.proofs.Common.{◌≡◌, map}
use Rattle.awari_phase.specs.Owners.{all_ends, rest_of}
use Rattle.awari_lines.proofs.Settling.{SettledTo}
use Rattle.awari_phase.proofs.settling.settle_owners.Given as goal

abbrev pub invariant-loop-j : goal.invariant-loop-j
invariant-loop-j l = (SettledTo (all_ends l.fn.all) (all_ends l.all) l.empty l.j 0) × (map rest_of l.all ≡ map rest_of l.fn.all)

abbrev pub invariant-loop-i : goal.invariant-loop-i
invariant-loop-i l = (SettledTo (all_ends l.fn.all) (all_ends l.all) l.empty l.j l.i) × (map rest_of l.all ≡ map rest_of l.fn.all)
