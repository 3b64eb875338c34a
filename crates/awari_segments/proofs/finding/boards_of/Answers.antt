use Rattle.std.proofs.Common.{◌∙◌, refl, arith, length-set}
use Rattle.awari_segments.proofs.Ahead.{BoardsBelow-more}
use Rattle.awari_segments.proofs.finding.boards_of.Goals as goal

pub loop-k-init : goal.loop-k-init
loop-k-init c = record { long = refl; below = λ k d below. absurd (omega (arith, below)) }

pub loop-k-preserved : goal.loop-k-preserved
loop-k-preserved c =
    let few = c.requires.few.1 in
    let long = c.loop-k.invariant.long in
    let test = c.loop-k-test.true in
    record {
      long = length-set c.loop-k.boards c.loop-k.k c.board.result ∙ long;
      below = BoardsBelow-more c.args.index.now c.args.ranks.now c.loop-k.boards c.loop-k.k c.board.result (omega (arith, few, long, test)) (c.board.ensures.board, c.board.ensures.stones, c.board.ensures.rank) c.loop-k.invariant.below;
    }

pub returns : goal.returns
returns c = λ k d h. let end = c.loop-k-test.false in c.loop-k.invariant.below k d (omega (arith, h, end))
