use Rattle.awari_phase.proofs.Stopping.{worked}
use Rattle.awari_phase.proofs.owners.Owner.work.Goals as goal

pub returns : goal.returns
returns g c =
    let kept = worked _ _ c.sweeps-swept.result _ c.err-self.ensures.value c.sweeps-swept.ensures.kept c.sweeps-swept.ensures.stopped in
    let swept = worked _ _ c.sweeps-swept.result _ c.err-self.ensures.value c.sweeps-swept.ensures.swept c.sweeps-swept.ensures.stopped in
    record {
      kept = kept.0;
      swept = λ well. (let s = swept.0 well in record { took = s.took; spread = s.spread; sent = s.sent });
      stopped = kept.1;
    }
