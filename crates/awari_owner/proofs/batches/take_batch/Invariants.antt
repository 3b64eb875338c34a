use Rattle.std.proofs.Common.{take}
use Rattle.awari_owner.specs.Sound.{TakesNotes}
use Rattle.awari_owner.proofs.batches.take_batch.Given as goal

abbrev pub invariant-loop-note : goal.invariant-loop-note
invariant-loop-note l = TakesNotes (take l.note-index l.batch.items) l.fn.part l.part
