use Rattle.std.proofs.lemmas.Result.{err_from_is_err_and}
use Rattle.awari_phase.proofs.Stopping.{kept_stopped}
use Rattle.awari_phase.proofs.Sweeping.{swept_of}
use Rattle.awari_phase.proofs.owners.Owner.sweep.Goals as goal

pub returns-in_err-spread-clause-stopped : goal.returns-in_err-spread-clause-stopped
returns-in_err-spread-clause-stopped c = let p = err_from_is_err_and c.from_residual-in_err-spread.result c.from_residual-in_err-spread.ensures.1 in rw (p.1, p.2) (kept_stopped c.args.self.now c.take_each.new.self _ _ _ _ c.in_ok-came.ensures.kept c.in_err-spread.ensures.stopped)

pub returns-then-spread-clause-swept : goal.returns-then-spread-clause-swept
returns-then-spread-clause-swept c =
    let spread = c.in_ok-spread.ensures in
    let went = c.send_each-went.ensures in
    swept_of c.args.self.now c.take_each.new.self c.spread_some.new.self c.send_each-went.new.self c.in_ok-came.ensures.kept c.in_ok-came.ensures.took spread.kept spread.ends spread.spread went.part went.received went.sent

pub returns-else-spread-clause-swept : goal.returns-else-spread-clause-swept
returns-else-spread-clause-swept c =
    let spread = c.in_ok-spread.ensures in
    let went = c.send_each-went.ensures in
    swept_of c.args.self.now c.take_each.new.self c.spread_some.new.self c.send_each-went.new.self c.in_ok-came.ensures.kept c.in_ok-came.ensures.took spread.kept spread.ends spread.spread went.part went.received went.sent
