use Rattle.std.proofs.Common.{rules, ◌<◌, Ok, Some, inl, inr, length, ap, sym, subst, subst₂, arith}
use Rattle.awari_block.specs.Part.{IsLeastDue, Part}
use Rattle.awari_core.specs.Core.{Core, Sender, Sound, DoesSpread, owner_part, sender_at}
use Rattle.awari_core.proofs.Effects.{as_many, both_same, core_of, due_here, never_far, part_was, sender_was, spread_does, with_both}
use Rattle.awari_owner.specs.Sound.{IsSpreadFault}
use Rattle.awari_owner.specs.Spread.{IsPartOf}
use Rattle.awari_owner.specs.declared.faults.OwnerFault.TheVariants.{Far}
use Rattle.awari_owner.proofs.SpreadFaults.{fault_due}
use Rattle.awari_core.proofs.Steps.{part_linked, spread_step}
use Rattle.awari_core.proofs.cores.Core.spread.Goals as goal

pub unreachable-requires : goal.unreachable-requires
unreachable-requires c =
    let old = core_of c.self.inside in
    let high : c.args.owner < length c.self.inside.parts.items = search rules in
    let far : IsSpreadFault c.index_mut-2.result.now (length c.index_mut.result.now.outboxes.queues) Far
    = subst (λ f. IsSpreadFault c.index_mut-2.result.now (length c.index_mut.result.now.outboxes.queues) f) c.in-Err-Far.field-0-is c.in-Err-Far.ensures.fault in
    never_far old.parts c.args.owner c.index_mut-2.result.now high c.index_mut-2.ensures.value (c.sound_cores_are_told.ensures.fit old c.self.invariant) far.2

pub spread-requires : goal.spread-requires
spread-requires c =
    let old = core_of c.self.inside in
    let high : c.args.owner < length c.self.inside.parts.items = search rules in
    record {
      part = subst₂ (λ (p : Part) (s : Sender). IsPartOf p s.outboxes) (part_was old.parts c.args.owner c.index_mut-2.result.now high c.index_mut-2.ensures.value)
          (sender_was old.senders c.args.owner c.index_mut.result.now (as_many old c.args.owner c.self.invariant high) c.index_mut.ensures.value)
          (part_linked (length old.shelf) (length old.parts) old.room c.args.owner (owner_part old c.args.owner) (sender_at old c.args.owner) high (c.self.invariant.sound.shares c.args.owner high) (c.self.invariant.linked c.args.owner high));
    }

-- a board that is not spread changes nothing
pub invariant_of-self : goal.invariant_of-self
invariant_of-self c =
    let old = core_of c.self.inside in
    let high : c.args.owner < length c.self.inside.parts.items = search rules in
    let kept = c.in-Ok-false.ensures.none (ap Ok c.in-Ok-false.field-0-test) in
    subst Sound (sym (both_same old c.args.owner c.index_mut-2.result.now c.spread.new.part c.index_mut.result.now c.spread.new.self high (as_many old c.args.owner c.self.invariant high)
    c.index_mut-2.ensures.value c.index_mut.ensures.value kept.1 kept.2)) c.self.invariant

pub returns-in-Ok-false-clause-sound : goal.returns-in-Ok-false-clause-sound
returns-in-Ok-false-clause-sound c = invariant_of-self c

pub returns-in-Ok-false-clause-refused : goal.returns-in-Ok-false-clause-refused
returns-in-Ok-false-clause-refused c =
    let old = core_of c.self.inside in
    let high : c.args.owner < length c.self.inside.parts.items = search rules in
    let was = part_was old.parts c.args.owner c.index_mut-2.result.now high c.index_mut-2.ensures.value in
    subst (λ (o : Core). (c.args.owner < length o.parts) × IsLeastDue (owner_part o c.args.owner) (Some (owner_part o c.args.owner).wave) → ⊥) c.self.view_is
    (λ enabled. (c.in-Ok-false.ensures.none (ap Ok c.in-Ok-false.field-0-test)).0 (subst (λ (p : Part). IsLeastDue p (Some p.wave)) was enabled.1))

pub invariant_of-self-in-Err : goal.invariant_of-self-in-Err
invariant_of-self-in-Err c =
    let old = core_of c.self.inside in
    let high : c.args.owner < length c.self.inside.parts.items = search rules in
    let kept = c.in-Err.ensures.err in
    subst Sound (sym (both_same old c.args.owner c.index_mut-2.result.now c.spread.new.part c.index_mut.result.now c.spread.new.self high (as_many old c.args.owner c.self.invariant high)
    c.index_mut-2.ensures.value c.index_mut.ensures.value kept.0 kept.1)) c.self.invariant

pub returns-in-Err-clause-sound : goal.returns-in-Err-clause-sound
returns-in-Err-clause-sound c = invariant_of-self-in-Err c

pub returns-in-Err-clause-refused : goal.returns-in-Err-clause-refused
returns-in-Err-clause-refused c =
    let old = core_of c.self.inside in
    let high : c.args.owner < length c.self.inside.parts.items = search rules in
    let high' = as_many old c.args.owner c.self.invariant high in
    let linked = c.self.invariant.linked c.args.owner high in
    let queues = ap (λ s. length s.outboxes.queues) (sender_was old.senders c.args.owner c.index_mut.result.now high' c.index_mut.ensures.value) in
    let told = fault_due c.index_mut-2.result.now (length c.index_mut.result.now.outboxes.queues) _ c.in-Err.ensures.fault in
    subst (λ (o : Core). ((c.args.owner < length o.parts) × IsLeastDue (owner_part o c.args.owner) (Some (owner_part o c.args.owner).wave)) × (1 < length o.parts)) c.self.view_is (
      (high, due_here old.parts c.args.owner c.index_mut-2.result.now high c.index_mut-2.ensures.value told.0),
      elim told.1 [
        | inl far ↦ absurd (never_far old.parts c.args.owner c.index_mut-2.result.now high c.index_mut-2.ensures.value (c.sound_cores_are_told.ensures.fit old c.self.invariant) far)
        | inr some ↦ (let same = linked.queues in omega (arith, some, same, queues))
      ],
    )

-- a board is spread
does : (c : goal.In-Ok-true) → DoesSpread (core_of c.self.inside) (with_both (core_of c.self.inside) c.args.owner c.spread.new.part c.spread.new.self) c.args.owner
does c =
    let old = core_of c.self.inside in
    let high : c.args.owner < length c.self.inside.parts.items = search rules in
    spread_does old c.args.owner c.index_mut-2.result.now c.spread.new.part c.index_mut.result.now c.spread.new.self high (as_many old c.args.owner c.self.invariant high)
    c.index_mut-2.ensures.value c.index_mut.ensures.value c.spread.ensures.stays.1 c.spread.ensures.stays.0 (c.in-Ok-true.ensures.spread (ap Ok c.in-Ok-true.field-0-test))

pub invariant_of-self-2 : goal.invariant_of-self-2
invariant_of-self-2 c = spread_step (core_of c.self.inside) (with_both (core_of c.self.inside) c.args.owner c.spread.new.part c.spread.new.self) c.args.owner (search rules) (does c) c.self.invariant

pub returns-clause-sound : goal.returns-clause-sound
returns-clause-sound c = invariant_of-self-2 c

pub returns-clause-done : goal.returns-clause-done
returns-clause-done c = subst (λ (o : Core). DoesSpread o (with_both (core_of c.self.inside) c.args.owner c.spread.new.part c.spread.new.self) c.args.owner) c.self.view_is (does c)

pub returns-clause-enabled : goal.returns-clause-enabled
returns-clause-enabled c =
    let old = core_of c.self.inside in
    let high : c.args.owner < length c.self.inside.parts.items = search rules in
    subst (λ (o : Core). (c.args.owner < length o.parts) × IsLeastDue (owner_part o c.args.owner) (Some (owner_part o c.args.owner).wave)) c.self.view_is
    (high, due_here old.parts c.args.owner c.index_mut-2.result.now high c.index_mut-2.ensures.value (c.in-Ok-true.ensures.spread (ap Ok c.in-Ok-true.field-0-test)).due)
