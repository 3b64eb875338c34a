use Rattle.std.proofs.Common.{sym, ◌∙◌}
use Rattle.std.proofs.lemmas.Result.{err_from_is_err_and}
use Rattle.awari_phase.specs.declared.owners.Owner.{Owner}
use Rattle.awari_phase.proofs.Keeping.{kept_owners, kept_trans}
use Rattle.awari_phase.proofs.Stopping.{kept_stopped}
use Rattle.awari_phase.proofs.Sweeping.{taken_more}
use Rattle.awari_phase.proofs.owners.Owner.take_each.Goals as goal

pub returns-in_err-came-clause-stopped : goal.returns-in_err-came-clause-stopped
returns-in_err-came-clause-stopped c = let p = err_from_is_err_and c.from_residual.result c.from_residual.ensures.1 in rw (p.1, p.2) (kept_stopped c.args.self.now c.loop-place.self _ _ _ _ c.loop-place.invariant.kept c.in_err-came.ensures.stopped)

pub loop-place-preserved : goal.loop-place-preserved
loop-place-preserved c =
    let a : Owner = c.args.self.now in
    let s : Owner = c.loop-place.self in
    let t : Owner = c.take_at.new.self in
    let before = c.loop-place.invariant in
    let kept = c.in_ok-came.ensures.kept in
    record {
      kept = kept_trans a s t before.kept kept;
      owners = before.owners ∙ sym (kept_owners s t kept);
      took = taken_more a s t c.loop-place.place before.kept c.in_ok-came.ensures.took before.took;
    }
