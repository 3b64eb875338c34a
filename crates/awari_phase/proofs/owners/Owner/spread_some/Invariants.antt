use Rattle.std.proofs.Common.{◌≡◌, ◌+◌, ◌≤◌}
use Rattle.awari_block.specs.Part.{unspread}
use Rattle.awari_phase.specs.Owners.{Kept}
use Rattle.awari_phase.proofs.owners.Owner.spread_some.Given as goal

abbrev pub invariant-loop-spread : goal.invariant-loop-spread
invariant-loop-spread l = record {
  kept : Kept l.fn.self l.self;
  ends : l.self.ends ≡ l.fn.self.ends;
  fewer : unspread l.self.part + l.spread ≤ unspread l.fn.self.part;
}
