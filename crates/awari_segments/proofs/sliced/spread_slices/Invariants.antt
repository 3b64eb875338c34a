use Rattle.awari_segments.specs.Slices.{AreSlices, GoesOn}
use Rattle.awari_segments.proofs.sliced.spread_slices.Given as goal

abbrev pub invariant-loop-slice : goal.invariant-loop-slice
invariant-loop-slice l = record {
  goes_on : GoesOn l.fn.draft l.after;
  slices : AreSlices l._slice l.fn.draft l.after;
}
