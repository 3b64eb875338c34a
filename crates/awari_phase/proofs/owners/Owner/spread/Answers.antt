use Rattle.std.proofs.Common.{◌≡◌, ◌⊎◌, ℕ, refl, inl, inr}
use Rattle.std.proofs.lemmas.Result.{err_from_is_err_and}
use Rattle.awari_block.specs.Part.{Part, HasFarthest}
use Rattle.awari_owner.specs.Sound.{IsSpreadFault}
use Rattle.awari_owner.specs.declared.faults.OwnerFault.{OwnerFault}
use Rattle.awari_owner.specs.declared.faults.OwnerFault.TheVariants.{Doubled, Far, Memory, Stranger}
use Rattle.awari_phase.proofs.Stopping.{stops_here}
use Rattle.awari_phase.proofs.Keeping.{spread_keeps}
use Rattle.awari_phase.proofs.owners.Owner.spread.Goals as goal

pub returns-clause-kept : goal.returns-clause-kept
returns-clause-kept c = spread_keeps _ _ _ _ _ c.args.self.now.queues c.args.self.now.numbered c.spread_one.ensures.stays.0 c.in_ok-done.done c.spread_one.result c.in_ok-done.was c.spread_one.ensures.spread
    (λ e. let none = c.spread_one.ensures.none e in (none.1, none.2))

-- what a fault of a spread is
due : (part : Part) (queues : ℕ) (fault : OwnerFault) → IsSpreadFault part queues fault → (fault ≡ Memory) ⊎ ((fault ≡ Far) × HasFarthest part)
due part queues Far far = inr (refl, far.2)
due part queues Memory memory = inl refl
due part queues Stranger none = absurd none
due part queues Doubled none = absurd none

pub returns-in_err-done-clause-stopped : goal.returns-in_err-done-clause-stopped
returns-in_err-done-clause-stopped c =
    let p = err_from_is_err_and c.from_residual.result c.from_residual.ensures.1 in
    rw (p.1, p.2)
    (stops_here c.args.self.now _ _ _ _ (inr (record { ends = refl; cells = c.in_err-done.ensures.err.0; outboxes = c.in_err-done.ensures.err.1; refused = due c.args.self.now.part _ _ c.in_err-done.ensures.fault })))
