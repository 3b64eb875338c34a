use Rattle.std.proofs.Common.{◌+◌, ℕ, Some, None, ap, ◌∙◌, arith}
use Rattle.awari_rank.specs.Rank.{size_of}
use Rattle.awari_rank.proofs.Reaching.{size_of-positive}
use Rattle.awari_verify.proofs.LevelLemmas.{RightBetween-more}
use Rattle.awari_verify.proofs.OlderLemmas.{falls_by}
use Rattle.awari_verify.proofs.older.old_refusal.Goals as goal

pub unrank-board-requires-clause-in_range : goal.unrank-board-requires-clause-in_range
unrank-board-requires-clause-in_range c = size_of-positive c.args.image.now.level

pub returns-in-Some : goal.returns-in-Some
returns-in-Some c =
    let before = c.loop-rank.invariant in
    let test = c.loop-rank-test.true in
    let sized = c.requires.sized in record {
      above = omega arith;
      below = omega (arith, test, sized);
      before = before.right;
      breach = record {
        board = c.loop-rank.board;
        is_board = before.is_board;
        stones = before.stones;
        ranked = before.ranked test;
        breaks = falls_by _ _ _ _ (Some c.in-Some.rule) c.see.ensures c.keeps_falling.ensures (c.in-Some.ensures _ _ c.see.ensures);
      };
    }

pub loop-rank-preserved : goal.loop-rank-preserved
loop-rank-preserved c =
    let before = c.loop-rank.invariant in
    let ranked = before.ranked c.loop-rank-test.true in
    let next = c.following-board.ensures in record {
      right = RightBetween-more _ _ _ _ _ c.loop-rank.board before.is_board before.stones ranked before.right
          (falls_by _ _ _ _ None c.see.ensures c.keeps_falling.ensures (c.in_default.ensures _ _ c.see.ensures));
      is_board = next.board;
      stones = next.stones ∙ before.stones;
      ranked = λ more.
          let sized = c.requires.sized in
          let size = ap size_of before.stones in
          next.rank (omega (arith, ranked, more, sized, size)) ∙ ap (λ (n : ℕ). n + 1) ranked;
    }
