use Rattle.awari_segments.specs.Taken.{TakesFrom}
use Rattle.awari_segments.proofs.Passing.{PassesBelow}
use Rattle.awari_segments.proofs.taking.take_boards.Given as goal

abbrev pub invariant-loop-k : goal.invariant-loop-k
invariant-loop-k l = record {
  takes : TakesFrom l.stake l.initial.segments l.segments l.chunk.lost.items l.chunk.won.items;
  passes : PassesBelow l.stake.wave l.initial.segments l.segments l.chunk.lost.items l.chunk.won.items l.k;
}
