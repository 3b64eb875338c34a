use Rattle.std.proofs.Common.{◌≡◌, ◌+◌, take}
use Rattle.awari_core.specs.Core.{Runs, Sound}
use Rattle.awari_core.proofs.cores.Core.run.Given as goal

abbrev pub invariant-loop-event : goal.invariant-loop-event
invariant-loop-event l = record {
  counted : l.ran.taken + l.ran.refused ≡ l.event-index;
  sound : Sound l.self;
  leads : Runs l.initial.self (take l.event-index l.events) l.self l.ran.taken l.ran.refused;
}
