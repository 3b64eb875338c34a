use Rattle.awari_owner.specs.Spread.{IsPartOf}
use Rattle.awari_owner_tests.proofs.refusals.spread_four.Given as goal

abbrev pub invariant-loop-board : goal.invariant-loop-board
invariant-loop-board g l = IsPartOf l.part l.outboxes
