use Rattle.std.proofs.Common.{◌≡◌, ◌<◌, ◌≤◌, ◌++◌, ◌∷◌, [], sum}
use Rattle.awari_board.specs.Rules.{IsBoard}
use Rattle.awari_rank.specs.Rank.{rank_of, size_of}
use Rattle.awari_table.specs.Images.{table_of}
use Rattle.awari_verify.specs.Pieces.{InTile, Looks, own_filling}
use Rattle.awari_verify.proofs.pieces.look_in_tile.Given as goal

abbrev pub invariant-loop-done : goal.invariant-loop-done
invariant-loop-done l = record {
  looks : Looks (table_of (l.shelf ++ l.image ∷ [])) l.image.level (λ p. InTile (sum l.tile.first) (rank_of l.tile.first) l.tile.count p × (own_filling p < l._done)) l.fn.nearest l.found;
  within : l.found.rank ≤ size_of l.image.level;
  is_board : IsBoard l.filling;
  stones : sum l.filling ≡ l.own;
  ranked : l._done < l.count → rank_of l.filling ≡ l._done;
}
