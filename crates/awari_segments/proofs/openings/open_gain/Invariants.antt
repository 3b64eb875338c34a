use Rattle.awari_segments.proofs.EachPart.{EachBelow}
use Rattle.awari_segments.specs.Each.{OpensGain}
use Rattle.awari_segments.proofs.openings.open_gain.Given as goal

abbrev pub invariant-loop-k : goal.invariant-loop-k
invariant-loop-k l = EachBelow (OpensGain l.gain) l.initial.segments l.segments l.k
