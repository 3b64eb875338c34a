use Rattle.std.proofs.Common.{◌<◌, ◌≤◌, ◌++◌, ◌∷◌, [], None}
use Rattle.awari_rank.specs.Rank.{size_of}
use Rattle.awari_table.specs.Images.{table_of}
use Rattle.awari_verify.specs.Pieces.{Looks, piece_of}
use Rattle.awari_verify.proofs.pieces.first_refusal.Given as goal

abbrev pub invariant-loop-piece : goal.invariant-loop-piece
invariant-loop-piece l = record {
  looks : Looks (table_of (l.shelf ++ l.image ∷ [])) l.image.level (λ p. piece_of p < l.piece) (record { rank = l.boards; rule = None }) l.found;
  within : l.found.rank ≤ size_of l.image.level;
}
