use Rattle.std.proofs.lemmas.Result.{err_from_is_err_and}
use Rattle.std.proofs.Common.{refl, inl}
use Rattle.awari_phase.proofs.Keeping.{others_received, sent_same, still_keeps, take_keeps}
use Rattle.awari_phase.proofs.Stopping.{stops_here}
use Rattle.awari_phase.proofs.owners.Owner.take_from.Goals as goal

pub returns-in_default-clause-kept : goal.returns-in_default-clause-kept
returns-in_default-clause-kept c = still_keeps _ _ c.args.from c.in_default.ensures.only.pairs c.in_default.ensures.only.others _ _ c.in_default.ensures.only.sent c.in_default.ensures.none.0

pub returns-clause-kept : goal.returns-clause-kept
returns-clause-kept c =
    take_keeps _ _ c.args.from c.in-Some.ensures.only.pairs c.in-Some.ensures.only.others _ _ _ c.in-Some.batch c.in-Some.ensures.only.sent c.in-Some.ensures.some.0 c.requires c.in_ok-take_batch.ensures.taken

pub returns-in_err-take_batch-clause-stopped : goal.returns-in_err-take_batch-clause-stopped
returns-in_err-take_batch-clause-stopped c =
    let p = err_from_is_err_and c.from_residual.result c.from_residual.ensures.1 in rw (p.1, p.2)
    (stops_here c.args.self.now _ _ _ _ (inl (record {
      from = c.args.from;
      batch = c.in-Some.batch;
      other = c.requires;
      pairs = c.in-Some.ensures.only.pairs;
      sent = sent_same _ _ c.args.from c.in-Some.ensures.only.pairs c.in-Some.ensures.only.others c.in-Some.ensures.only.sent;
      popped = c.in-Some.ensures.some.0;
      others = others_received _ _ c.args.from c.in-Some.ensures.only.pairs c.in-Some.ensures.only.others;
      outboxes = refl;
      refuses = c.in_err-take_batch.ensures.refused;
    })))
