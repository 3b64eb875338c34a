use Rattle.std.proofs.Common.{◌≡◌, ◌+◌, ◌≤◌, sum, drop}
use Rattle.awari_rank.specs.Rank.{rank_of}
use Rattle.awari_rank.proofs.Ranking.{larger}
use Rattle.awari_rank.proofs.ranks.rank.Given as goal

abbrev pub invariant-loop-pit : goal.invariant-loop-pit
invariant-loop-pit l = record {
  right : l.right ≡ sum (drop l.pit l.board);
  few : l.right ≤ 24;
  found : l.larger + larger (drop l.pit l.board) ≡ larger l.board;
  all : rank_of l.board + 1 + larger l.board ≡ l.boards;
}
