use Rattle.std.proofs.Common.{drop}
use Rattle.awari_block.specs.Boards.{stake_of}
use Rattle.awari_block.specs.Part.{Part}
use Rattle.awari_segments.specs.Segments.{SettlesPast, notes_by}
use Rattle.awari_segments.specs.Tellings.{HearsSurely}
use Rattle.awari_segments.proofs.hearing.hear_batch.Given as goal

abbrev pub invariant-loop-k : goal.invariant-loop-k
invariant-loop-k l = record {
  settles : SettlesPast l.initial.segment l.segment;
  hears : (new : Part) → HearsSurely (notes_by (stake_of l.initial.segment) l.kind (drop l.k l.codes)) l.segment new → HearsSurely (notes_by (stake_of l.initial.segment) l.kind l.codes) l.initial.segment new;
}
