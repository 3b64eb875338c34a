use Rattle.std.proofs.Common.{◌⊎◌, inl, inr}
use Rattle.std.proofs.lemmas.Result.{IfErr-weaker}
use Rattle.awari_phase.specs.PhaseFault.{IfTogether, IsStop, IsWant}
use Rattle.awari_phase.specs.declared.faults.PhaseFault.{PhaseFault}
use Rattle.awari_phase.proofs.phases.gain_phase.Goals as goal

never : (K : Type 0) (fault : PhaseFault) → K ⊎ IsStop ⊥ fault → K
never K fault (inl told) = told
never K fault (inr stop) = absurd stop.1

pub returns-clause-wanting : goal.returns-clause-wanting
returns-clause-wanting g c =
    IfErr-weaker c.gain_phase_with_progress.result (IfTogether c.args.owners.items (λ fault. IsWant fault ⊎ IsStop ⊥ fault)) (IfTogether c.args.owners.items IsWant)
    (λ fault told value n small t. never (IsWant fault) fault (told value n small t)) c.gain_phase_with_progress.ensures.wanting
