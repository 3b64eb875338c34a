use Rattle.std.proofs.Common.{◌∷◌, ◌++◌, [], append_assoc, sym, ap, ◌∙◌}
use Rattle.std.proofs.lemmas.List.{map-append}
use Rattle.awari_phase.specs.Owners.{ends_of}
use Rattle.awari_phase.specs.declared.owners.Owner.{Owner}
use Rattle.awari_owner_tests.proofs.apart.taken_apart.Goals as goal

pub loop-owner-preserved : goal.loop-owner-preserved
loop-owner-preserved c = record {
  whole = append_assoc c.loop-owner.yielded (c.in-Some.owner ∷ []) c.next.new.self.rest.items ∙ ap (λ l. c.loop-owner.yielded ++ l) (sym c.in-Some.ensures.steps.0) ∙ c.loop-owner.invariant.whole;
  parts = c.in_ok-push.ensures.items ∙ ap (λ ps. ps ++ c.in-Some.owner.part ∷ []) c.loop-owner.invariant.parts ∙ sym (map-append (λ (o : Owner). o.part) c.loop-owner.yielded (c.in-Some.owner ∷ []));
  ends = c.in_ok-push-2.ensures.items ∙ ap (λ es. es ++ c.in-Some.owner.ends ∷ []) c.loop-owner.invariant.ends ∙ sym (map-append ends_of c.loop-owner.yielded (c.in-Some.owner ∷ []));
}
