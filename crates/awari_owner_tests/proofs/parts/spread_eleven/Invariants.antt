use Rattle.std.proofs.Common.{◌≡◌}
use Rattle.awari_owner.specs.Spread.{IsPartOf}
use Rattle.awari_owner_tests.proofs.parts.spread_eleven.Given as goal

abbrev pub invariant-loop-board : goal.invariant-loop-board
invariant-loop-board g l = record {
  made : IsPartOf l.part l.outboxes;
  low : l.part.wave ≡ 0;
}
