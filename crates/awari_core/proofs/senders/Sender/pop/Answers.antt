use Rattle.std.proofs.Common.{◌≡◌, ◌<◌, ℕ, Option, Some, None, IfSome, length, get_or, set, ap, sym, rules, ◌∙◌}
use Rattle.std.proofs.lemmas.List.{get_or_default}
use Rattle.awari_core.specs.Core.{Ring, Sender, no_ring}
use Rattle.awari_core.proofs.senders.Sender.pop.Goals as goal

weaker : {X : Type 0} (P Q : X → Type 0) (o : Option X) → ((x : X) → P x → Q x) → IfSome o P → IfSome o Q
weaker P Q None f h = tt
weaker P Q (Some x) f h = f x h

pub returns-clause-some : goal.returns-clause-some
returns-clause-some c =
    let high : c.args.to < length c.self.inside.rings.items = search rules in
    let at : get_or c.args.self.now.rings c.args.to no_ring ≡ c.index_mut.result.now =
    ap (λ (o : Sender). get_or o.rings c.args.to no_ring) (sym c.self.view_is) ∙ get_or_default c.self.inside.rings.items c.args.to no_ring c.index_mut.result.now high ∙ sym c.index_mut.ensures.value in
    weaker _ _ c.pop.result (λ batch said. record {
      rest = c.pop.new.self.batches;
      first = ap (λ (l : Ring). l.batches) at ∙ said.0;
      pops = ap (λ (n : ℕ). record { outboxes = c.self.inside.outboxes; rings = set c.self.inside.rings.items c.args.to (record { batches = c.pop.new.self.batches; room = n }) }) (said.1 ∙ ap (λ (l : Ring). l.room) (sym at))
          ∙ ap (λ (o : Sender). record { outboxes = o.outboxes; rings = set o.rings c.args.to (record { batches = c.pop.new.self.batches; room = (get_or c.args.self.now.rings c.args.to no_ring).room }) }) c.self.view_is;
    }) c.pop.ensures.some
