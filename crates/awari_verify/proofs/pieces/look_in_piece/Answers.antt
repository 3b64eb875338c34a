use Rattle.std.proofs.Common.{◌-◌, ◌%◌, ◌<◌, ◌≤◌, ◌++◌, ℕ, List, drop, refl, arith}
use Rattle.awari_rank.specs.Fillings.{none}
use Rattle.awari_verify.specs.Pieces.{other_filling}
use Rattle.awari_verify.proofs.LookLemmas.{Looks-none, Looks-some}
use Rattle.awari_verify.proofs.PieceLemmas.{IsOfPiece, of_piece, piece_first, piece_more, piece_own}
use Rattle.awari_verify.proofs.pieces.look_in_piece.Goals as goal

pub returns-then-own-image : goal.returns-then-own-image
returns-then-own-image c =
    let highest = c.requires.shaped.low in
    let above = c.if-own-image.true in
    Looks-none _ _ _ _ (λ p board stones is.
    let own = piece_own p c.args.image.now.level c.args.piece (omega (arith, highest)) stones is in
    let within = own.1 in
    let same = own.0 in
    omega (arith, within, same, above))

pub loop-start-init : goal.loop-start-init
loop-start-init c =
    let highest = c.requires.shaped.low in
    let first = c.from-start.ensures in
    record {
      looks = Looks-none _ _ _ _ (λ p board stones here. piece_first p c.args.image.now.level c.args.piece c.from-start.result (omega (arith, highest)) board stones first here);
      within = c.requires.within;
      place = omega (arith, first);
    }

pub loop-start-preserved : goal.loop-start-preserved
loop-start-preserved c =
    let before = c.loop-start.invariant in
    let nearer = c.look_in_tile-found.ensures.nearer in
    let within = before.within in
    let place = before.place in
    let step = c.from-start-in-loop-start.ensures in
    let highest = c.requires.shaped.low in
    let low : c.args.image.now.level ≤ 24 = omega (arith, highest) in
    let few : (p : List ℕ) → IsOfPiece c.args.piece (c.args.image.now.level - c.args.piece % 25) p → other_filling p < c.fillings-fillings.result
    = λ p of. (c.fillings-fillings.ensures.first (none ++ drop 6 p) of.board of.level).1 refl
    in
    record {
      looks = piece_more _ c.args.image.now.level c.args.piece c.fillings-fillings.result c.loop-start.start c.min.result c.from-start-in-loop-start.result c.unrank.result _ _ _ low place c.unrank.ensures.stones c.unrank.ensures.rank
          c.min.ensures step few before.looks c.look_in_tile-found.ensures;
      within = omega (arith, nearer, within);
      place = omega (arith, place, step);
    }

pub returns : goal.returns
returns c =
    Looks-some _ _ _ _ _ _ c.loop-start.invariant.looks (λ p board stones is.
    let highest = c.requires.shaped.low in
    let of = of_piece p c.args.image.now.level c.args.piece (omega (arith, highest)) board stones is in
    let some = (c.fillings-fillings.ensures.first (none ++ drop 6 p) of.board of.level).1 refl in
    let end = c.loop-start-test.false in
    let all = c.from.ensures in
    (is, omega (arith, some, end, all)))
