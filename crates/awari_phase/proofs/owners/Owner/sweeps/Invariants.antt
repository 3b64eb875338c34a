use Rattle.std.proofs.Common.{◌<◌}
use Rattle.awari_phase.specs.Owners.{Kept, Swept}
use Rattle.awari_phase.proofs.owners.Owner.sweeps.Given as goal

abbrev pub invariant-loop : goal.invariant-loop
invariant-loop g l = record {
  kept : Kept l.fn.self l.self;
  swept : 0 < l.counter → Swept l.fn.self l.self;
}
