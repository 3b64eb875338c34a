use Rattle.std.proofs.Common.{◌≡◌, ◌<◌, ℕ, get_or, length}
use Rattle.awari_core.specs.Core.{IsLinked, IsSilent, no_sender}
use Rattle.awari_core.proofs.senders.silent_senders.Given as goal

abbrev pub invariant-loop-owner : goal.invariant-loop-owner
invariant-loop-owner l = record {
  count : length l.senders.items ≡ l.owner;
  silent : (k : ℕ) → k < l.owner → IsSilent (get_or l.senders.items k no_sender);
  linked : (k : ℕ) → k < l.owner → IsLinked l.owners l.room k (get_or l.senders.items k no_sender);
}
