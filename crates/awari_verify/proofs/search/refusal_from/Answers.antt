use Rattle.std.proofs.Common.{refl, ◌∙◌, arith}
use Rattle.awari_verify.proofs.LevelLemmas.{RightBetween-more, RightBetween-last}
use Rattle.awari_verify.proofs.search.refusal_from.Goals as goal

pub returns-in-None : goal.returns-in-None
returns-in-None c =
    let before = c.loop-rank.invariant in
    RightBetween-last _ _ _ _ _ _ c.loop-rank.board before.is_board before.stones (before.ranked c.loop-rank-test.true) before.right
    (c.in_default.ensures _ _ c.see.ensures) (c.in-None.ensures.last.0 refl) c.requires.within

pub loop-rank-preserved : goal.loop-rank-preserved
loop-rank-preserved c =
    let before = c.loop-rank.invariant in
    let ranked = before.ranked c.loop-rank-test.true in
    let next = c.in-Some-successor.ensures in record {
      right = RightBetween-more _ _ _ _ _ c.loop-rank.board before.is_board before.stones ranked before.right (c.in_default.ensures _ _ c.see.ensures);
      is_board = next.board;
      stones = next.stones ∙ before.stones;
      ranked = λ _. let is = next.rank in omega arith;
    }
