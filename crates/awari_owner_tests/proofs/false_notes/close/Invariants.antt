use Rattle.std.proofs.Common.{ℕ}
use Rattle.awari_owner.specs.Owners.{IsShare}
use Rattle.awari_owner.specs.Spread.{IsPartOf}
use Rattle.awari_owner_tests.proofs.false_notes.close.Given as goal

abbrev pub invariant-loop-gain : goal.invariant-loop-gain
invariant-loop-gain g l = record {
  made : IsPartOf l.part l.outboxes;
  share : (n owners i : ℕ) → IsShare n owners i l.fn.part → IsShare n owners i l.part;
}
