use Rattle.std.proofs.Common.{rules}
use Rattle.awari_board.proofs.Moving.{IsMove-from_steps}
use Rattle.awari_board.proofs.boards.Board.play.Goals as goal

pub returns-clause-moved : goal.returns-clause-moved
returns-clause-moved c =
    rw (← c.self.view_is)
    (IsMove-from_steps _ _ _ _ _ _ _ (search rules) c.sow-last.ensures.sown c.sow-last.ensures.last c.capture-captured.ensures.stones c.capture-captured.ensures.emptied c.turned.ensures)
