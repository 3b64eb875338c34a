use Rattle.awari_block.specs.Part.{unspread}
use Rattle.awari_build.specs.OnePart.{IsAlone, StaysSound}
use Rattle.awari_build.proofs.alone.spread_all.Given as goal

abbrev pub invariant-loop-dist : goal.invariant-loop-dist
invariant-loop-dist g l = record {
  alone : IsAlone l.part l.outboxes;
  stays : StaysSound l.fn.part l.part;
}

abbrev pub decreases-loop-dist : goal.decreases-loop-dist
decreases-loop-dist g l = unspread l.part
