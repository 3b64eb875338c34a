use Rattle.std.proofs.Common.{◌^◌}
use Rattle.awari_segments.proofs.EachPart.{EachBelow, Both}
use Rattle.awari_segments.specs.Segments.{SettlesPast}
use Rattle.awari_segments.specs.Tellings.{HearsTelling, telling_of}
use Rattle.awari_segments.proofs.hearing.hear_rows.Given as goal

abbrev pub invariant-loop-k : goal.invariant-loop-k
invariant-loop-k l = EachBelow (Both (HearsTelling (2 ^ l.log) (telling_of l.stake l.row)) SettlesPast) l.initial.segments l.segments l.k
