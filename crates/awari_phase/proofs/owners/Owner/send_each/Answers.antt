use Rattle.std.proofs.Common.{sym, ◌∙◌}
use Rattle.awari_phase.specs.declared.owners.Owner.{Owner}
use Rattle.awari_phase.proofs.Keeping.{kept_owners, kept_trans}
use Rattle.awari_phase.proofs.Sweeping.{nothing_more, sent_more}
use Rattle.awari_phase.proofs.owners.Owner.send_each.Goals as goal

pub loop-place-preserved : goal.loop-place-preserved
loop-place-preserved c =
    let a : Owner = c.args.self.now in
    let s : Owner = c.loop-place.self in
    let t : Owner = c.send_at-went.new.self in
    let before = c.loop-place.invariant in
    let step = c.send_at-went.ensures.sent in
    let kept = c.send_at-went.ensures.kept in
    record {
      kept = kept_trans a s t before.kept kept;
      owners = before.owners ∙ sym (kept_owners s t kept);
      part = step.part ∙ before.part;
      received = nothing_more a s t before.kept before.received step.received;
      sent = sent_more a s t c.loop-place.place before.kept step before.sent;
    }
