use Rattle.std.proofs.Common.{ℕ}
use Rattle.awari_owner.specs.Owners.{IsShare}
use Rattle.awari_owner.specs.Spread.{IsPartOf}
use Rattle.awari_owner_tests.proofs.false_notes.spread_all.Given as goal

abbrev pub invariant-loop-board : goal.invariant-loop-board
invariant-loop-board g l = record {
  made : IsPartOf l.part l.outboxes;
  share : (n owners i : ℕ) → IsShare n owners i l.fn.part → IsShare n owners i l.part;
}
