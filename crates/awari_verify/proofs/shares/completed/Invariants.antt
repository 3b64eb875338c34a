use Rattle.std.proofs.Common.{◌≡◌, ◌<◌, ◌≤◌, ◌⊎◌, ◌++◌, ◌∷◌, [], None, true, false, slice_index_or}
use Rattle.awari_rank.specs.Rank.{size_of}
use Rattle.awari_table.specs.Images.{table_of}
use Rattle.awari_verify.specs.Pieces.{Looks, piece_of}
use Rattle.awari_verify.proofs.shares.completed.Given as goal

abbrev pub invariant-loop-piece : goal.invariant-loop-piece
invariant-loop-piece l = record {
  looks : Looks (table_of (l.shelf ++ l.image ∷ [])) l.image.level (λ p. (slice_index_or l.share.seen (piece_of p) false ≡ true) ⊎ (piece_of p < l.piece)) (record { rank = size_of l.image.level; rule = None }) l.nearest;
  within : l.nearest.rank ≤ size_of l.image.level;
}
