use Rattle.std.proofs.Common.{◌≡◌, true, false, slice_index_or, None, sym, subst}
use Rattle.awari_rank.specs.Rank.{size_of}
use Rattle.awari_verify.specs.Pieces.{Looks, piece_of}
use Rattle.awari_verify.specs.declared.pieces.Nearest.{Nearest}
use Rattle.awari_verify.proofs.LookLemmas.{Looks-both}
use Rattle.awari_verify.proofs.shares.Share.join.Goals as goal

pub returns-clause-share : goal.returns-clause-share
returns-clause-share c = λ t level own other.
    subst (λ (s : Nearest). Looks t level (λ p. slice_index_or c.loop-piece.seen (piece_of p) false ≡ true) (record { rank = size_of level; rule = None }) s) (sym c.or_nearer-self.ensures)
    (Looks-both _ _ _ _ _ _ _ _ own other (λ p board stones here. c.loop-piece.invariant.only (piece_of p) here))
