use Rattle.std.proofs.Common.{◌≡◌, ◌++◌, ◌∷◌, [], Bool, List, None, true, false, slice_index_or, sym, subst, ap, ◌∙◌}
use Rattle.awari_rank.specs.Rank.{size_of}
use Rattle.awari_table.specs.Images.{table_of}
use Rattle.awari_verify.specs.Pieces.{Looks, piece_of}
use Rattle.awari_verify.specs.declared.pieces.Nearest.{Nearest}
use Rattle.awari_verify.proofs.LookLemmas.{Looks-none}
use Rattle.awari_verify.proofs.ShareLemmas.{none_seen}
use Rattle.awari_verify.proofs.shares.Share.none.Goals as goal

pub returns-clause-seen : goal.returns-clause-seen
returns-clause-seen c = λ piece seen. none_seen 1600 piece (subst (λ (xs : List Bool). slice_index_or xs piece false ≡ true) c.no_pieces.ensures seen)

pub returns-clause-share : goal.returns-clause-share
returns-clause-share c = λ shelf shaped.
    let T = table_of (shelf ++ c.args.image.now ∷ []) in
    let start : c.none.result ≡ record { rank = size_of c.args.image.now.level; rule = None } = c.none.ensures ∙ ap (λ n. record { rank = n; rule = None }) c.size.ensures.boards in
    subst (λ (s : Nearest). Looks T c.args.image.now.level (λ p. slice_index_or c.no_pieces.result (piece_of p) false ≡ true) (record { rank = size_of c.args.image.now.level; rule = None }) s) (sym start)
    (Looks-none _ _ _ _ (λ p board stones seen. returns-clause-seen c (piece_of p) seen))
