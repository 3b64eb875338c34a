use Rattle.awari_index.specs.Runs.{IsBoardAt}
use Rattle.awari_index.proofs.Filling.{IsFilling}
use Rattle.awari_index.proofs.tails.push_tails.Given as goal

abbrev pub invariant-loop-rank : goal.invariant-loop-rank
invariant-loop-rank l = record {
  filling : IsFilling l.stones l.initial.boards.items l.boards.items l._rank;
  board : IsBoardAt l.stones l._rank l.board;
}
