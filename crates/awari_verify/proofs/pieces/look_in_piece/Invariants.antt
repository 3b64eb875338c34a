use Rattle.std.proofs.Common.{◌≡◌, ◌-◌, ◌*◌, ◌%◌, ◌<◌, ◌≤◌, ◌++◌, ◌∷◌, []}
use Rattle.awari_rank.specs.Rank.{size_of}
use Rattle.awari_table.specs.Images.{table_of}
use Rattle.awari_verify.specs.Pieces.{Looks, other_filling, part_of, piece_of}
use Rattle.awari_verify.proofs.pieces.look_in_piece.Given as goal

abbrev pub invariant-loop-start : goal.invariant-loop-start
invariant-loop-start l = record {
  looks : Looks (table_of (l.shelf ++ l.image ∷ [])) l.image.level (λ p. (piece_of p ≡ l.piece) × (other_filling p < l.start)) l.fn.nearest l.found;
  within : l.found.rank ≤ size_of l.image.level;
  place : l.start % 4096 ≡ part_of l.piece * 64;
}

abbrev pub decreases-loop-start : goal.decreases-loop-start
decreases-loop-start l = l.fillings - l.start
