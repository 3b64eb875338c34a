use Rattle.std.proofs.Common.{◌≡◌, ◌<◌, ◌∷◌, [], List, length, get_or, sym, ap, ◌∙◌, arith, length-set}
use Rattle.std.proofs.lemmas.List.{get_or-set_same, get_or-set_other}
use Rattle.awari_block.specs.declared.notes.Note.{Note}
use Rattle.awari_owner.specs.Outboxes.{Outboxes, queue_to}
use Rattle.awari_phase.specs.Owners.{Batches}
use Rattle.awari_phase.proofs.Keeping.{still_keeps, send_keeps}
use Rattle.awari_phase.proofs.owners.Owner.send_to.Goals as goal

pub returns-in-Err-clause-kept : goal.returns-in-Err-clause-kept
returns-in-Err-clause-kept c = still_keeps _ _ c.args.to c.push.ensures.only.pairs c.push.ensures.only.others _ _ c.in-Err.ensures.full.1 c.push.ensures.only.received

pub returns-in-Ok-clause-kept : goal.returns-in-Ok-clause-kept
returns-in-Ok-clause-kept c =
    let o = c.args.self.now.outboxes in
    let dropped = c.drop_front.ensures in
    let found = c.in-Some.ensures.some in
    let batch : dropped.0 ≡ c.in-Some.batch.items = ap (λ (l : Batches). get_or l 0 []) (sym dropped.2 ∙ found.1) in
    let first = dropped.2 ∙ ap (λ (b : List Note). b ∷ dropped.1) batch in
    let many = c.args.self.now.queues in
    let low = c.requires.1 in
    let inside : c.args.to < length o.queues = omega (arith, many, low) in
    send_keeps _ _ c.args.to c.push.ensures.only.pairs c.push.ensures.only.others _ o _ c.in-Some.batch dropped.1 c.in-Ok.ensures.ok.0 c.push.ensures.only.received c.requires c.in-Some.ensures.batch
    first
    (ap (λ (u : Outboxes). queue_to u c.args.to) dropped.3 ∙ get_or-set_same o.queues c.args.to dropped.1 [] inside)
    (λ k n. ap (λ (u : Outboxes). queue_to u k) dropped.3 ∙ get_or-set_other o.queues c.args.to k dropped.1 [] n)
    (ap (λ (u : Outboxes). u.owner) dropped.3)
    (ap (λ (u : Outboxes). length u.queues) dropped.3 ∙ length-set o.queues c.args.to dropped.1)
