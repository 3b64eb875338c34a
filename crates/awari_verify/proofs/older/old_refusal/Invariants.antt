use Rattle.std.proofs.Common.{◌≡◌, ◌<◌, ◌++◌, ◌∷◌, [], sum}
use Rattle.awari_board.specs.Rules.{IsBoard}
use Rattle.awari_rank.specs.Rank.{rank_of}
use Rattle.awari_table.specs.Images.{table_of}
use Rattle.awari_theory.specs.Older.{DistancesFall}
use Rattle.awari_verify.specs.FirstFailure.{RightBetween}
use Rattle.awari_verify.proofs.older.old_refusal.Given as goal

abbrev pub invariant-loop-rank : goal.invariant-loop-rank
invariant-loop-rank l = record {
  right : RightBetween DistancesFall (table_of (l.shelf ++ l.image ∷ [])) l.image.level 0 l.rank;
  is_board : IsBoard l.board;
  stones : sum l.board ≡ l.image.level;
  ranked : l.rank < l.boards → rank_of l.board ≡ l.rank;
}
