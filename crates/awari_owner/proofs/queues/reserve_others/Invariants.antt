use Rattle.std.proofs.Common.{◌≡◌, ◌≢◌, ◌<◌, ◌≤◌, ℕ, vec_len}
use Rattle.awari_owner.specs.Queues.{batches_of, room_in}
use Rattle.awari_owner.proofs.queues.reserve_others.Given as goal

abbrev pub invariant-loop-to : goal.invariant-loop-to
invariant-loop-to l = record {
  same : batches_of l.queues.items ≡ batches_of l.initial.queues.items;
  many : vec_len l.queues ≡ vec_len l.initial.queues;
  room : (k : ℕ) → k < l.to → k ≢ l.owner → 288 ≤ room_in l.queues.items k;
}
