use Rattle.awari_segments.proofs.EachPart.{EachBelow}
use Rattle.awari_segments.specs.Each.{OpensWave}
use Rattle.awari_segments.proofs.openings.open_wave.Given as goal

abbrev pub invariant-loop-k : goal.invariant-loop-k
invariant-loop-k l = EachBelow (OpensWave l.dist) l.initial.segments l.segments l.k
