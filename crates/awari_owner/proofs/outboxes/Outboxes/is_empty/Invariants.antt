use Rattle.std.proofs.Common.{◌≡◌, ◌<◌, ℕ, [], get_or}
use Rattle.awari_owner.proofs.outboxes.Outboxes.is_empty.Given as goal

abbrev pub invariant-loop-queue : goal.invariant-loop-queue
invariant-loop-queue l = (k : ℕ) → k < l.queue-index → get_or l.self.queues k [] ≡ []
