use Rattle.std.proofs.Common.{◌≡◌, [], replicate}
use Rattle.awari_core.proofs.senders.Sender.new.Given as goal

abbrev pub invariant-loop-to : goal.invariant-loop-to
invariant-loop-to l = l.rings.items ≡ replicate l._to (record { batches = []; room = l.room })
