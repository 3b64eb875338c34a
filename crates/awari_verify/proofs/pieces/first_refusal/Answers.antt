use Rattle.std.proofs.Common.{◌<◌, ◌≤◌, ◌++◌, ◌∷◌, [], None, Option, MatchOption, sym, subst, arith}
use Rattle.awari_table.specs.Certificate.{DistancesAreLeast}
use Rattle.awari_table.specs.Images.{table_of}
use Rattle.awari_rank.specs.Rank.{size_of}
use Rattle.awari_verify.specs.FirstFailure.{RightBetween, IsRefusal}
use Rattle.awari_verify.specs.Pieces.{Looks, piece_of}
use Rattle.awari_verify.specs.declared.pieces.Nearest.{Nearest}
use Rattle.awari_verify.specs.declared.search.Refusal.{Refusal}
use Rattle.awari_verify.proofs.LookLemmas.{Looks-none, Looks-then, Looks-all}
use Rattle.awari_verify.proofs.PieceLemmas.{piece_before, piece_inside}
use Rattle.awari_verify.proofs.pieces.first_refusal.Goals as goal

pub loop-piece-init : goal.loop-piece-init
loop-piece-init c =
    let sized = c.requires.sized in
    record {
      looks = subst (λ (s : Nearest). Looks (table_of (c.args.shelf.now ++ c.args.image.now ∷ [])) c.args.image.now.level (λ p. piece_of p < 0) (record { rank = c.args.boards; rule = None }) s) (sym c.none-found.ensures)
          (Looks-none _ _ _ _ (λ p board stones before. omega (arith, before)));
      within = subst (λ (s : Nearest). s.rank ≤ size_of c.args.image.now.level) (sym c.none-found.ensures) (omega (arith, sized));
    }

pub loop-piece-preserved : goal.loop-piece-preserved
loop-piece-preserved c =
    let nearer = c.look_in_piece-found.ensures.nearer in
    let within = c.loop-piece.invariant.within in
    record {
      looks = Looks-then _ _ _ _ _ _ _ _ c.loop-piece.invariant.looks c.look_in_piece-found.ensures (λ p board stones before. piece_before c.loop-piece.piece p before);
      within = omega (arith, nearer, within);
    }

pub returns : goal.returns
returns c =
    let T = table_of (c.args.shelf.now ++ c.args.image.now ∷ []) in
    subst (λ (found : Option Refusal). MatchOption found (RightBetween DistancesAreLeast T c.args.image.now.level 0 c.args.boards) (λ r. IsRefusal DistancesAreLeast T c.args.image.now.level 0 c.args.boards r.rank r.rule)) (sym c.refusal.ensures)
    (Looks-all _ _ _ _ _ c.loop-piece.invariant.looks (λ p board stones.
    let low = c.requires.shaped.low in
    let inside = piece_inside p c.args.image.now.level (omega (arith, low)) stones in
    let end = c.loop-piece-test.false in
    omega (arith, inside, end)))
