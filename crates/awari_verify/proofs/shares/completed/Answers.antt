use Rattle.std.proofs.Common.{inr, arith}
use Rattle.awari_verify.specs.Pieces.{piece_of}
use Rattle.awari_verify.proofs.LookLemmas.{Looks-some, Looks-then, Looks-all}
use Rattle.awari_verify.proofs.PieceLemmas.{piece_inside}
use Rattle.awari_verify.proofs.ShareLemmas.{unseen_first, seen_next, unseen_next}
use Rattle.awari_verify.proofs.shares.completed.Goals.{then-not-share-piece, else-not-share-piece}
use Rattle.awari_verify.proofs.shares.completed.Goals as goal

pub loop-piece-init : goal.loop-piece-init
loop-piece-init c =
    let nearer = c.requires.share.nearer in
    record {
      looks = Looks-some _ _ _ _ _ _ c.requires.share (λ p board stones here. unseen_first _ (piece_of p) here);
      within = omega (arith, nearer);
    }

pub loop-piece-preserved : goal.loop-piece-preserved
loop-piece-preserved c =
    let i = c.loop-piece.invariant in
    let within = i.within in
    elim c.if-not-share-piece.branch [
      | then-not-share-piece w ↦
          let nearer = w.look_in_piece-nearest.ensures.nearer in
          rw w.nearest-is (record {
            looks = Looks-then _ _ _ _ _ _ _ _ i.looks w.look_in_piece-nearest.ensures (λ p board stones here. unseen_next _ (piece_of p) c.loop-piece.piece here);
            within = omega (arith, nearer, within);
          })
      | else-not-share-piece w ↦
          rw w.nearest-is (record {
            looks = Looks-some _ _ _ _ _ _ i.looks (λ p board stones here. seen_next c.args.share.now.seen (piece_of p) c.loop-piece.piece w.if-not-share-piece.false here);
            within = within;
          })
    ]

pub returns : goal.returns
returns c =
    Looks-all _ _ _ _ _ c.loop-piece.invariant.looks (λ p board stones.
    let low = c.requires.shaped.low in
    let inside = piece_inside p c.args.image.now.level (omega (arith, low)) stones in
    let end = c.loop-piece-test.false in
    inr (omega (arith, inside, end)))
