use Rattle.std.proofs.Common.{◌≡◌, ℕ, ◌<◌, ◌≤◌, [], All, IsNone, IfSome, slice_index_or}
use Rattle.awari_block.specs.Blocks.{due_dist}
use Rattle.awari_phase.specs.declared.owners.Owner.{Owner}
use Rattle.awari_phase.proofs.phases.least_due.Given as goal

abbrev pub invariant-loop-owner : goal.invariant-loop-owner
invariant-loop-owner l = record {
  none : IsNone l.least → (i : ℕ) (d : Owner) → i < l.owner-index → (slice_index_or l.owners i d).part.fresh ≡ [];
  some : IfSome l.least (λ dist. (i : ℕ) (d : Owner) → i < l.owner-index → All (λ f. dist ≤ due_dist f) (slice_index_or l.owners i d).part.fresh);
}
