use Rattle.awari_phase.specs.Owners.{JoinsWave}
use Rattle.awari_phase.proofs.Each.{DoneTo}
use Rattle.awari_owner_tests.proofs.apart.open_waves_1.Given as goal

abbrev pub invariant-loop-i : goal.invariant-loop-i
invariant-loop-i g l = DoneTo (JoinsWave 1) l.fn.owners l.owners l.i
