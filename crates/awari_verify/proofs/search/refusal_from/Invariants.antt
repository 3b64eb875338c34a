use Rattle.std.proofs.Common.{◌≡◌, ◌<◌, ◌++◌, ◌∷◌, [], sum}
use Rattle.awari_board.specs.Rules.{IsBoard}
use Rattle.awari_rank.specs.Rank.{rank_of}
use Rattle.awari_table.specs.Certificate.{DistancesAreLeast}
use Rattle.awari_table.specs.Images.{table_of}
use Rattle.awari_verify.specs.FirstFailure.{RightBetween}
use Rattle.awari_verify.proofs.search.refusal_from.Given as goal

abbrev pub invariant-loop-rank : goal.invariant-loop-rank
invariant-loop-rank l = record {
  right : RightBetween DistancesAreLeast (table_of (l.shelf ++ l.image ∷ [])) l.image.level (rank_of l.first) l.rank;
  is_board : IsBoard l.board;
  stones : sum l.board ≡ l.image.level;
  ranked : l.rank < l.high → rank_of l.board ≡ l.rank;
}
