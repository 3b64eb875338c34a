use Rattle.std.proofs.Common.{◌≡◌, length}
use Rattle.awari_segments.specs.declared.finding.TheConstants.{AHEAD}
use Rattle.awari_segments.proofs.Ahead.{BoardsBelow}
use Rattle.awari_segments.proofs.finding.boards_of.Given as goal

abbrev pub invariant-loop-k : goal.invariant-loop-k
invariant-loop-k l = record {
  long : length l.boards ≡ AHEAD;
  below : BoardsBelow l.index l.ranks l.boards l.k;
}
