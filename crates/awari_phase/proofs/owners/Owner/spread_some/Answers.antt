use Rattle.std.proofs.lemmas.Result.{err_from_is_err_and}
use Rattle.awari_phase.proofs.Stopping.{kept_stopped}
use Rattle.awari_phase.proofs.owners.Owner.spread_some.Goals as goal

pub returns-in_err-spread-clause-stopped : goal.returns-in_err-spread-clause-stopped
returns-in_err-spread-clause-stopped c = let p = err_from_is_err_and c.from_residual.result c.from_residual.ensures.1 in rw (p.1, p.2) (kept_stopped c.args.self.now c.loop-spread.self _ _ _ _ c.loop-spread.invariant.kept c.in_err-spread.ensures.stopped)
