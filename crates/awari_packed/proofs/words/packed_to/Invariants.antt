use Rattle.std.proofs.Common.{◌≡◌, take}
use Rattle.awari_packed.specs.Packed.{packed}
use Rattle.awari_packed.proofs.words.packed_to.Given as goal

abbrev pub invariant-loop-pit : goal.invariant-loop-pit
invariant-loop-pit l = l.bits ≡ packed (take l.pit l.pits)
