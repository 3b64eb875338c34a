use Rattle.std.proofs.Common.{Some, subst}
use Rattle.std.specs.HashMap.{Updates}
use Rattle.awari_boards.specs.Memo.{is_same}
use Rattle.awari_boards.proofs.MemoLaws.{are_counted_more}
use Rattle.awari_boards.proofs.memo.Memo.keep.Goals as goal

pub invariant_of-self-2 : goal.invariant_of-self-2
invariant_of-self-2 c =
    are_counted_more c.self.inside.counts c.insert.new.self c.args.board.now c.args.plies c.args.counts c.self.invariant c.requires
    (subst (λ board. Updates is_same c.self.inside.counts c.insert.new.self (board, c.args.plies) (Some c.args.counts)) c.pits.ensures.pits c.in_ok-insert.ensures.updates)
