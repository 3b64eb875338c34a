use Rattle.std.proofs.Common.{◌∷◌, ◌++◌, [], List, All, ap, sym, subst, ◌∙◌, append_assoc}
use Rattle.std.proofs.lemmas.List.Elements.{All-tail}
use Rattle.awari_block.specs.Part.{IsClosed, Part}
use Rattle.awari_segments.proofs.segments.closed_all.Goals as goal

pub loop-segment-preserved : goal.loop-segment-preserved
loop-segment-preserved c =
    let rest = c.next.new.self.rest.items in
    record {
      whole = append_assoc c.loop-segment.yielded (c.in-Some.segment ∷ []) rest ∙ ap (λ (l : List Part). c.loop-segment.yielded ++ l) (sym c.in-Some.ensures.steps.0) ∙ c.loop-segment.invariant.whole;
      closed = All-tail IsClosed c.in-Some.segment rest (subst (All IsClosed) c.in-Some.ensures.steps.0 c.loop-segment.invariant.closed);
      parts = c.in_ok-push.ensures.items ∙ ap (λ (l : List Part). l ++ c.close.result ∷ []) c.loop-segment.invariant.parts ∙ ap (λ (p : Part). c.loop-segment.yielded ++ p ∷ []) c.close.ensures;
    }
