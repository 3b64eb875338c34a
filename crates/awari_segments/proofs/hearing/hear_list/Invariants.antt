use Rattle.std.proofs.Common.{drop, ◌-◌, length}
use Rattle.awari_block.specs.Boards.{stake_of}
use Rattle.awari_block.specs.Part.{Part}
use Rattle.awari_segments.specs.Segments.{SettlesPast, notes_by}
use Rattle.awari_segments.specs.Tellings.{HearsSurely}
use Rattle.awari_segments.proofs.hearing.hear_list.Given as goal

abbrev pub invariant-loop-start : goal.invariant-loop-start
invariant-loop-start l = record {
  settles : SettlesPast l.initial.segment l.segment;
  hears : (new : Part) → HearsSurely (notes_by (stake_of l.initial.segment) l.kind (drop l.start l.codes)) l.segment new → HearsSurely (notes_by (stake_of l.initial.segment) l.kind l.codes) l.initial.segment new;
}

abbrev pub decreases-loop-start : goal.decreases-loop-start
decreases-loop-start l = length l.codes - l.start
