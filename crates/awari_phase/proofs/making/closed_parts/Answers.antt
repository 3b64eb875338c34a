use Rattle.std.proofs.Common.{◌∷◌, ◌++◌, [], append_assoc, sym, ap, subst, ◌∙◌, All}
use Rattle.std.proofs.lemmas.List.{map-append}
use Rattle.std.proofs.lemmas.List.Elements.{All-head, All-tail}
use Rattle.awari_block.specs.Part.{IsClosed}
use Rattle.awari_phase.specs.Owners.{parts_of}
use Rattle.awari_phase.specs.declared.owners.Owner.{Owner}
use Rattle.awari_phase.proofs.making.closed_parts.Goals as goal

pub close-requires : goal.close-requires
close-requires c = All-head IsClosed c.in-Some.owner.part (parts_of c.next.new.self.rest.items) (subst (All IsClosed) (ap parts_of c.in-Some.ensures.steps.0) c.loop-owner.invariant.closed)

pub loop-owner-preserved : goal.loop-owner-preserved
loop-owner-preserved c = record {
  whole = append_assoc c.loop-owner.yielded (c.in-Some.owner ∷ []) c.next.new.self.rest.items ∙ ap (λ l. c.loop-owner.yielded ++ l) (sym c.in-Some.ensures.steps.0) ∙ c.loop-owner.invariant.whole;
  closed = All-tail IsClosed c.in-Some.owner.part (parts_of c.next.new.self.rest.items) (subst (All IsClosed) (ap parts_of c.in-Some.ensures.steps.0) c.loop-owner.invariant.closed);
  parts = c.in_ok-push.ensures.items ∙ ap (λ p. c.loop-owner.parts.items ++ p ∷ []) c.close.ensures
      ∙ ap (λ ps. ps ++ c.in-Some.owner.part ∷ []) c.loop-owner.invariant.parts ∙ sym (map-append (λ (o : Owner). o.part) c.loop-owner.yielded (c.in-Some.owner ∷ []));
}
