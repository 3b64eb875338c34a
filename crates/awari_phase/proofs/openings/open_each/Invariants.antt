use Rattle.awari_phase.specs.Owners.{JoinsWave}
use Rattle.awari_phase.proofs.Each.{DoneTo}
use Rattle.awari_phase.proofs.openings.open_each.Given as goal

abbrev pub invariant-loop-i : goal.invariant-loop-i
invariant-loop-i l = DoneTo (JoinsWave l.dist) l.fn.owners l.owners l.i
