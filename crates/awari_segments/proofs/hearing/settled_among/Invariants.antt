use Rattle.std.proofs.Common.{◌≡◌, ◌<◌, ℕ, length, slice_index_or}
use Rattle.awari_segments.specs.Segments.{IsCodeFor}
use Rattle.awari_segments.specs.declared.hearing.TheConstants.{HEARD_AT_ONCE}
use Rattle.awari_segments.proofs.Ahead.{TellsBelow}
use Rattle.awari_segments.proofs.hearing.settled_among.Given as goal

abbrev pub invariant-loop-k : goal.invariant-loop-k
invariant-loop-k l = record {
  long : length l.settled ≡ HEARD_AT_ONCE;
  below : TellsBelow l.segment l.codes l.settled l.k;
  codes : (j d : ℕ) → j < l.k → IsCodeFor l.segment (slice_index_or l.codes j d);
}
