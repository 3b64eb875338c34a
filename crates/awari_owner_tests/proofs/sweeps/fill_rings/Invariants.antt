use Rattle.awari_lines.specs.Rings.{SamePairs}
use Rattle.awari_phase.specs.declared.owners.Owner.{Owner}
use Rattle.awari_phase.proofs.Each.{DoneTo}
use Rattle.awari_owner_tests.proofs.sweeps.fill_rings.Given as goal

abbrev pub invariant-loop-i : goal.invariant-loop-i
invariant-loop-i g l = DoneTo (λ (a b : Owner). SamePairs a.ends b.ends) l.fn.owners l.owners l.i
