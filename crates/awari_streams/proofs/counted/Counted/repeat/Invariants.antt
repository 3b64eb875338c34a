use Rattle.std.proofs.Common.{◌≡◌}
use Rattle.std.specs.Io.KnownBytes.{Keeps}
use Rattle.awari_streams.proofs.counted.Counted.repeat.Given as goal

abbrev pub invariant-loop : goal.invariant-loop
invariant-loop g l = Keeps (g.C.Call.bytes l.initial.self.inner) (g.C.Call.bytes l.self.inner) × (l.self.count ≡ l.initial.self.count)
