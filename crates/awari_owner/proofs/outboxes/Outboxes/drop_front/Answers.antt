use Rattle.std.proofs.Common.{◌≡◌, ◌<◌, ◌∷◌, ℕ, List, [], length, get_or, set, ap, sym, subst, arith, ◌∙◌, get_or-set_other, length-set, All}
use Rattle.awari_owner.specs.Queues.{batches_of}
use Rattle.awari_owner.specs.Outboxes.{AreBatches, AreOutboxes, IsBatch, Outboxes}
use Rattle.std.proofs.lemmas.List.Elements.{All-set, All-tail}
use Rattle.awari_block.specs.declared.notes.Note.{Note}
use Rattle.awari_owner.proofs.Sending.{batches_at, batches_length, batches_set, high_from_some}
use Rattle.awari_owner.proofs.outboxes.Outboxes.drop_front.Goals as goal

-- a queue without its first batch
dropped_kept : (queues : List (List (List Note))) (owner to : ℕ) (batch : List Note) (rest : List (List Note)) (after : List (List (List Note)))
    → AreOutboxes (record { owner = owner; queues = queues }) → get_or queues to [] ≡ batch ∷ rest → after ≡ set queues to rest → AreOutboxes (record { owner = owner; queues = after })
dropped_kept queues owner to batch rest after are first now = record {
  few = omega (arith, len, are.few);
  one = omega (arith, len, are.one);
  own = ap (λ b. get_or b owner []) now ∙ get_or-set_other queues to owner rest [] (λ e. cons_some batch rest (sym first ∙ ap (λ k. get_or queues k []) (sym e) ∙ are.own)) ∙ are.own;
  batches = subst (All AreBatches) (sym now) (All-set AreBatches queues to rest (All-tail IsBatch batch rest (subst AreBatches first (are.batches to [] below))) are.batches);
}
  where
    cons_some : (b : List Note) (l : List (List Note)) → b ∷ l ≡ [] → ⊥
    cons_some b l e = absurd cc

    below : to < length queues
    below = high_from_some queues to (λ e. cons_some batch rest (sym first ∙ e))

    len : length after ≡ length queues
    len = ap length now ∙ length-set queues to rest

pub returns : goal.returns
returns c =
    let seen = ap (λ (o : Outboxes). get_or o.queues c.args.to []) c.self.view_is in
    let below = high_from_some (batches_of c.self.inside.queues.items) c.args.to (λ e. c.requires (sym seen ∙ e)) in
    let high : c.args.to < length c.self.inside.queues.items = omega (arith, below, batches_length c.self.inside.queues.items) in
    let at : get_or (batches_of c.self.inside.queues.items) c.args.to [] ≡ c.index_mut.result.now.batches = batches_at c.self.inside.queues.items c.args.to c.index_mut.result.now high c.index_mut.ensures.value in
    let dropped = c.drop_front.ensures in (
      dropped.0,
      c.drop_front.new.self.batches,
      sym seen ∙ at ∙ dropped.1,
      ap (λ (b : List (List (List Note))). record { owner = c.self.inside.owner; queues = b }) (batches_set c.self.inside.queues.items c.args.to c.drop_front.new.self)
          ∙ ap (λ (o : Outboxes). record { owner = o.owner; queues = set o.queues c.args.to c.drop_front.new.self.batches }) c.self.view_is,
    )

pub invariant_of-self : goal.invariant_of-self
invariant_of-self c =
    let seen = ap (λ (o : Outboxes). get_or o.queues c.args.to []) c.self.view_is in
    let below = high_from_some (batches_of c.self.inside.queues.items) c.args.to (λ e. c.requires (sym seen ∙ e)) in
    let high : c.args.to < length c.self.inside.queues.items = omega (arith, below, batches_length c.self.inside.queues.items) in
    let at : get_or (batches_of c.self.inside.queues.items) c.args.to [] ≡ c.index_mut.result.now.batches = batches_at c.self.inside.queues.items c.args.to c.index_mut.result.now high c.index_mut.ensures.value in
    dropped_kept (batches_of c.self.inside.queues.items) c.self.inside.owner c.args.to c.drop_front.ensures.0 c.drop_front.new.self.batches _ c.self.invariant
    (at ∙ c.drop_front.ensures.1) (batches_set c.self.inside.queues.items c.args.to c.drop_front.new.self)
