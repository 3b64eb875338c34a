use Rattle.std.proofs.Common.{◌≡◌, ◌↔◌, Bool, true, false, IsTrue, sym, ◌∙◌}
use Rattle.std.proofs.lemmas.Bool.{false≢true}
use Rattle.awari_verify.proofs.SightLemmas.{range-iff, end-iff, plan-iff, gain-iff, plan_gain-iff}
use Rattle.awari_verify.proofs.rules.first_broken.Goals as goal

kept : {A B : Type 0} (b : Bool) → IsTrue b ↔ A → A ↔ B → b ≡ true → B
kept b test same is = same.0 (test.0 is)

broken : {A B : Type 0} (b : Bool) → IsTrue b ↔ A → A ↔ B → b ≡ false → B → ⊥
broken b test same is right = false≢true (sym is ∙ test.1 (same.1 right))

pub returns-then-not-keeps_end : goal.returns-then-not-keeps_end
returns-then-not-keeps_end c = λ t p h. (
  kept _ c.keeps_range.ensures (range-iff t p _ h) c.if-not-keeps_range.false,
  broken _ c.keeps_end.ensures (end-iff t p _ h) c.if-not-keeps_end.true,
)

pub returns-then-not-keeps_gain : goal.returns-then-not-keeps_gain
returns-then-not-keeps_gain c = λ t p h. (
  kept _ c.keeps_range.ensures (range-iff t p _ h) c.if-not-keeps_range.false,
  kept _ c.keeps_end.ensures (end-iff t p _ h) c.if-not-keeps_end.false,
  kept _ c.keeps_plan.ensures (plan-iff t p _ h) c.if-not-keeps_plan.false,
  broken _ c.keeps_gain.ensures (gain-iff t p _ h) c.if-not-keeps_gain.true,
)

pub returns-then-not-keeps_plan_gain : goal.returns-then-not-keeps_plan_gain
returns-then-not-keeps_plan_gain c = λ t p h. (
  kept _ c.keeps_range.ensures (range-iff t p _ h) c.if-not-keeps_range.false,
  kept _ c.keeps_end.ensures (end-iff t p _ h) c.if-not-keeps_end.false,
  kept _ c.keeps_plan.ensures (plan-iff t p _ h) c.if-not-keeps_plan.false,
  kept _ c.keeps_gain.ensures (gain-iff t p _ h) c.if-not-keeps_gain.false,
  broken _ c.keeps_plan_gain.ensures (plan_gain-iff t p _ h) c.if-not-keeps_plan_gain.true,
)

pub returns-then-not-distance : goal.returns-then-not-distance
returns-then-not-distance c = λ t p h. (
  kept _ c.keeps_range.ensures (range-iff t p _ h) c.if-not-keeps_range.false,
  kept _ c.keeps_end.ensures (end-iff t p _ h) c.if-not-keeps_end.false,
  kept _ c.keeps_plan.ensures (plan-iff t p _ h) c.if-not-keeps_plan.false,
  kept _ c.keeps_gain.ensures (gain-iff t p _ h) c.if-not-keeps_gain.false,
  kept _ c.keeps_plan_gain.ensures (plan_gain-iff t p _ h) c.if-not-keeps_plan_gain.false,
  λ is. false≢true (sym c.if-not-distance.true ∙ is),
)

pub returns : goal.returns
returns c = λ t p h. record {
  in_range = kept _ c.keeps_range.ensures (range-iff t p _ h) c.if-not-keeps_range.false;
  ends = kept _ c.keeps_end.ensures (end-iff t p _ h) c.if-not-keeps_end.false;
  has_plan = kept _ c.keeps_plan.ensures (plan-iff t p _ h) c.if-not-keeps_plan.false;
  no_more = kept _ c.keeps_gain.ensures (gain-iff t p _ h) c.if-not-keeps_gain.false;
  plan_gains = kept _ c.keeps_plan_gain.ensures (plan_gain-iff t p _ h) c.if-not-keeps_plan_gain.false;
  distances = c.if-not-distance.false;
}
