use Rattle.std.proofs.lemmas.Result.{err_from_is_err_and}
use Rattle.awari_phase.proofs.Keeping.{kept_trans}
use Rattle.awari_phase.proofs.Stopping.{kept_stopped}
use Rattle.awari_phase.proofs.Sweeping.{swept_then}
use Rattle.awari_phase.proofs.owners.Owner.sweeps.Goals as goal

pub returns-in_err-sweep-clause-stopped : goal.returns-in_err-sweep-clause-stopped
returns-in_err-sweep-clause-stopped g c = let p = err_from_is_err_and c.from_residual.result c.from_residual.ensures.1 in rw (p.1, p.2) (kept_stopped c.args.self.now c.loop.self _ _ _ _ c.loop.invariant.kept c.in_err-sweep.ensures.stopped)

pub loop-preserved : goal.loop-preserved
loop-preserved g c = record {
  kept = kept_trans c.args.self.now c.loop.self c.sweep.new.self c.loop.invariant.kept c.in_ok-sweep.ensures.kept;
  swept = λ some. swept_then c.args.self.now c.loop.self c.sweep.new.self c.loop.invariant.kept c.in_ok-sweep.ensures.swept;
}

pub returns-then-not-branch-clause-swept : goal.returns-then-not-branch-clause-swept
returns-then-not-branch-clause-swept g c = swept_then c.args.self.now c.loop.self c.sweep.new.self c.loop.invariant.kept c.in_ok-sweep.ensures.swept
