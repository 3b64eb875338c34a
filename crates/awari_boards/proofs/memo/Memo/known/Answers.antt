use Rattle.std.proofs.Common.{ap, subst, sym, ◌∙◌}
use Rattle.std.specs.Prelude.{IfSome}
use Rattle.std.specs.HashMap.{get}
use Rattle.awari_boards.specs.Memo.{is_same}
use Rattle.awari_boards.specs.Plays.{AreCounts}
use Rattle.awari_boards.proofs.MemoLaws.{for_each_before}
use Rattle.awari_boards.proofs.memo.Memo.known.Goals as goal

pub returns : goal.returns
returns c =
    let found = c.copied.ensures ∙ c.get.ensures.value ∙ ap (λ board. get is_same c.self.inside.counts (board, c.args.plies)) c.pits.ensures.pits in
    for_each_before c.args.plies c.args.board.now c.copied.result
    (λ before. subst (λ counts. IfSome counts (AreCounts c.args.plies before c.args.board.now)) (sym found) (c.self.invariant c.args.board.now c.args.plies before))
