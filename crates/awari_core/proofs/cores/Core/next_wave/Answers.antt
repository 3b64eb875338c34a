use Rattle.std.proofs.Common.{rules, ◌≡◌, ◌<◌, ◌≤◌, ℕ, Option, Some, None, IfSome, length, sym, subst, refl, arith, ◌∙◌}
use Rattle.awari_core.specs.Core.{Core, IsAllTaken, IsLeastOf, owner_part}
use Rattle.awari_core.proofs.Effects.{core_of}
use Rattle.awari_core.proofs.Rounds.{none_due, none_near, other_dist, same_dist, sound_wave, wave_due}
use Rattle.awari_core.proofs.cores.Core.next_wave.Goals as goal

pub returns-then-eq-clause-refused : goal.returns-then-eq-clause-refused
returns-then-eq-clause-refused c =
    let due = same_dist c.due-due.result c.wave.result (sym c.eq.ensures ∙ c.if-eq.true) in
    (refl, wave_due c.args.self.now c.wave.result (subst (IsLeastOf c.args.self.now.parts (length c.args.self.now.parts)) due c.due-due.ensures.least) c.wave.ensures)

pub returns-in_default-clause-done : goal.returns-in_default-clause-done
returns-in_default-clause-done c =
    none_due c.args.self.now (none c.due-due.result c.in_default.not-Some c.due-due.ensures.least) (c.is_all_taken.ensures.0 (search rules))
  where
    none : (o : Option ℕ) → ((x : ℕ) → o ≡ Some x → ⊥) → IsLeastOf c.args.self.now.parts (length c.args.self.now.parts) o → IsLeastOf c.args.self.now.parts (length c.args.self.now.parts) None
    none None not least = least
    none (Some d) not least = absurd (not d refl)

pub returns-clause-done : goal.returns-clause-done
returns-clause-done c =
    let due = c.in-Some.is in
    let some : 0 < length c.args.self.now.parts = subst (λ (o : Core). 0 < length o.parts) c.self.view_is c.self.invariant.some in
    let timely : c.wave.result ≤ c.in-Some.dist =
    (let at = c.wave.ensures 0 some in let low : (owner_part c.args.self.now 0).wave ≤ c.in-Some.dist = subst (λ (o : Option ℕ). IfSome o (λ d. (owner_part c.args.self.now 0).wave ≤ d)) due c.due-due.ensures.timely in omega (arith, at, low)) in
    none_near c.args.self.now c.in-Some.dist c.wave.result (subst (IsLeastOf c.args.self.now.parts (length c.args.self.now.parts)) due c.due-due.ensures.least) timely
    (other_dist c.due-due.result c.in-Some.dist c.wave.result due (sym c.eq.ensures ∙ c.if-eq.false)) c.wave.ensures (c.is_all_taken.ensures.0 (search rules))

pub invariant_of-self : goal.invariant_of-self
invariant_of-self c =
    let old = core_of c.self.inside in
    let count : length c.open_waves.new.parts.items ≡ length c.self.inside.parts.items = search rules in
    let taken : IsAllTaken old = subst IsAllTaken (sym c.self.view_is) (c.is_all_taken.ensures.0 (search rules)) in
    sound_wave old c.in-Some.dist c.open_waves.new.parts.items c.self.invariant taken count (λ i low. c.open_waves.ensures.opened i (search (rules, low)))

pub returns-clause-sound : goal.returns-clause-sound
returns-clause-sound c = invariant_of-self c
