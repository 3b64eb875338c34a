use Rattle.std.proofs.Common.{◌<◌, ◌∙◌, ap, sym, subst, arith, length}
use Rattle.awari_rank.specs.Rank.{size_of}
use Rattle.awari_play.specs.Lowering.{LowersBoard}
use Rattle.awari_play.proofs.Lowerings.{IsLowering, lowering-true, lowering-false, fell_all}
use Rattle.awari_play.proofs.lowering.lower_beyond.Goals as goal
use Rattle.awari_play.proofs.lowering.lower_beyond.Goals.{then-lower_board, else-lower_board}

pub loop-rank-preserved : goal.loop-rank-preserved
loop-rank-preserved c =
    let boards = ap size_of c.levels.ensures.levels in
    let inside : c.loop-rank.rank < length c.loop-rank.entries.items =
    omega (arith, boards, c.loop-rank.invariant.nearer.size, c.size-rank-end.ensures.boards, c.requires.level.sized, c.loop-rank-test.true) in
    let lowers = c.lower_board.ensures in
    elim c.if-lower_board.branch [
      | then-lower_board w ↦
          subst (IsLowering c.args.shelf.now c.args.entries.now.items c.lower_board.new.entries.items c.args.near _) (sym w.fell-is)
          (lowering-true c.args.shelf.now c.args.entries.now.items c.loop-rank.entries.items _ c.args.near c.loop-rank.rank c.loop-rank.fell inside c.loop-rank.invariant
          (subst (LowersBoard c.args.shelf.now c.loop-rank.entries.items c.lower_board.new.entries.items c.args.near c.loop-rank.rank) w.if-lower_board.true lowers))
      | else-lower_board w ↦
          subst (IsLowering c.args.shelf.now c.args.entries.now.items c.lower_board.new.entries.items c.args.near _) (sym w.fell-is)
          (lowering-false c.args.shelf.now c.args.entries.now.items c.loop-rank.entries.items _ c.args.near c.loop-rank.rank c.loop-rank.fell inside c.loop-rank.invariant
          (subst (LowersBoard c.args.shelf.now c.loop-rank.entries.items c.lower_board.new.entries.items c.args.near c.loop-rank.rank) w.if-lower_board.false lowers))
    ]

pub returns-clause-fell : goal.returns-clause-fell
returns-clause-fell c =
    let boards = ap size_of c.levels.ensures.levels in
    fell_all c.args.shelf.now _ _ c.args.near c.loop-rank.rank c.loop-rank.fell (omega (arith, boards, c.size-rank-end.ensures.boards, c.loop-rank-test.false))
    (λ p is stones. let low = c.size-rank-end.ensures.below p is (stones ∙ sym c.levels.ensures.levels) in omega (arith, low, boards))
    c.loop-rank.invariant
