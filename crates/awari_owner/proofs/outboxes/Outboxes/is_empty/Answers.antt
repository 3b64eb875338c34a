use Rattle.std.proofs.Common.{◌≡◌, ◌<◌, ◌≤◌, [], length, get_or, IsTrue, subst, ap, sym, ◌∙◌, below_more, rules, arith}
use Rattle.std.proofs.lemmas.List.{get_or_default}
use Rattle.awari_owner.specs.Outboxes.{Outboxes}
use Rattle.awari_owner.proofs.Sending.{batches_at, batches_length}
use Rattle.awari_owner.proofs.outboxes.Outboxes.is_empty.Goals as goal

pub loop-queue-preserved : goal.loop-queue-preserved
loop-queue-preserved c =
    below_more _ _ c.loop-queue.invariant
    (ap (λ (o : Outboxes). get_or o.queues c.loop-queue.queue-index []) (sym c.self.view_is)
    ∙ batches_at c.self.inside.queues.items c.loop-queue.queue-index c.queue-item.result (search rules)
    (c.queue-item.is ∙ ap (λ l. get_or l c.loop-queue.queue-index c.queue-item.result) c.deref-queue-items.ensures.value) ∙ c.is_empty.ensures.0 (search rules))

pub returns-then-not-is_empty-clause-empty : goal.returns-then-not-is_empty-clause-empty
returns-then-not-is_empty-clause-empty c = (
  λ never. absurd cc,
  λ all.
      let long : length c.args.self.now.queues ≡ length c.self.inside.queues.items = ap (λ (o : Outboxes). length o.queues) (sym c.self.view_is) ∙ batches_length c.self.inside.queues.items in
      let high : c.loop-queue.queue-index < length c.self.inside.queues.items = search rules in
      let at = batches_at c.self.inside.queues.items c.loop-queue.queue-index c.queue-item.result high
      (c.queue-item.is ∙ ap (λ l. get_or l c.loop-queue.queue-index c.queue-item.result) c.deref-queue-items.ensures.value) in
      subst IsTrue c.if-not-is_empty.true (c.is_empty.ensures.1 (sym at ∙ ap (λ (o : Outboxes). get_or o.queues c.loop-queue.queue-index []) c.self.view_is ∙ all c.loop-queue.queue-index [] (omega (arith, high, long)))),
)

pub returns-clause-empty : goal.returns-clause-empty
returns-clause-empty c =
    let long : length c.args.self.now.queues ≡ length c.self.inside.queues.items = ap (λ (o : Outboxes). length o.queues) (sym c.self.view_is) ∙ batches_length c.self.inside.queues.items in
    let end : length c.self.inside.queues.items ≤ c.loop-queue.queue-index = search rules in
    (λ _ k d h. get_or_default c.args.self.now.queues k d [] h ∙ c.loop-queue.invariant k (omega (arith, h, long, end)), λ _. search rules)
