use Rattle.std.proofs.Common.{◌≡◌, [], replicate}
use Rattle.awari_owner.specs.Queues.{batches_of}
use Rattle.awari_owner.proofs.outboxes.Outboxes.new.Given as goal

abbrev pub invariant-loop-owner : goal.invariant-loop-owner
invariant-loop-owner l = batches_of l.queues.items ≡ replicate l._owner []
