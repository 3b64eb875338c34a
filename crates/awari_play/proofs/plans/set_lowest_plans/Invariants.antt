use Rattle.std.proofs.Common.{◌≡◌, ◌<◌, sum, length}
use Rattle.awari_board.specs.Rules.{IsBoard}
use Rattle.awari_rank.specs.Rank.{rank_of}
use Rattle.awari_play.specs.Planning.{ArePlannedBelow, SameSettled}
use Rattle.awari_play.proofs.plans.set_lowest_plans.Given as goal

abbrev pub invariant-loop-rank : goal.invariant-loop-rank
invariant-loop-rank l = record {
  same : SameSettled l.fn.entries.items l.entries.items;
  planned : ArePlannedBelow l.shelf l.fn.entries.items l.entries.items l.rank;
  is_board : IsBoard l.board;
  stones : sum l.board ≡ length l.shelf;
  ranked : l.rank < l.boards → rank_of l.board ≡ l.rank;
}
