-- What comes of a slice, over plain variables.
use Rattle.std.proofs.Common.{◌≡◌, refl, ap, subst, inl}
use Rattle.std.specs.Prelude.{Option, Some, None}
use Rattle.awari_segments.specs.Slices.{SlicedView, IsSlice}
use Rattle.awari_exports.specs.Held.{Spreads, TellsDraft}
use Rattle.awari_exports.specs.declared.telling.PlainDraft.{PlainDraft}

abbrev IsOne : Option SlicedView → Type 0
IsOne None = ⊥
IsOne (Some draft) = Unit {0}

abbrev value_or : SlicedView → Option SlicedView → SlicedView
value_or other None = other
value_or other (Some draft) = draft

of_one : (before after : SlicedView) (told : PlainDraft) → IsSlice before after → TellsDraft after told → Spreads (Some before) (Some after) told 0
of_one before after told slice tells = record {
  none = λ gone. absurd (subst IsOne gone tt);
  begun = λ draft is. inl (refl, (subst (λ (d : SlicedView). IsSlice d after) (ap (value_or before) is) slice, tells));
}

pub spread_one : (old : Option SlicedView) (before after : SlicedView) (told : PlainDraft) → Some before ≡ old → IsSlice before after → TellsDraft after told
    → Spreads old (Some after) told 0
spread_one old before after told is slice tells = subst (λ (o : Option SlicedView). Spreads o (Some after) told 0) is (of_one before after told slice tells)
