use Rattle.std.proofs.Common.{subst}
use Rattle.awari_answers.specs.Asked.{IsAsked}
use Rattle.awari_places.proofs.Reading.{still_says}
use Rattle.awari_boards.specs.Known.{IsOpened}
use Rattle.awari_boards.proofs.Knowing.{known_right, known_said, limit_said}
use Rattle.awari_play.specs.Plies.{AreLinePlies}
use Rattle.awari_play.proofs.Lasting.{err_same}
use Rattle.awari_boards.proofs.Refusing.{plies_before, unknown_asked, unknown_opened, unknown_read, unknown_shelved}
use Rattle.awari_boards.proofs.plies.plies_of.Goals as goal

pub returns-then-query-clause-plies : goal.returns-then-query-clause-plies
returns-then-query-clause-plies g c =
    (c.in_ok-board.field-0.board, known_said _ (g.F.Folder.state c.args.folder.now).stands _ c.in_ok-board.field-0.board c.in_ok-board.field-0.opened (λ images. AreLinePlies c.args.query.longest images c.in_ok-board.field-0.board c.in_ok-plies.plies.plies.items c.in_ok-plies.plies.repeat) c.if-query.true (subst (λ text. IsOpened (g.F.Folder.state c.args.folder.now).stands text c.in_ok-board.field-0.board c.in_ok-board.field-0.opened) c.as_bytes-text.ensures.value c.in_ok-board.ensures.opened) c.in_ok-board.ensures.known (λ images says. c.in_ok-plies.ensures.plies images (still_says _ _ _ images c.open_level_of.ensures.same says) (limit_said _ _ _ _ images c.in_ok-board.ensures.opened says)))

pub returns-clause-plies : goal.returns-clause-plies
returns-clause-plies g c =
    (c.in_ok-board-2.field-0.board, known_right _ (g.F.Folder.state c.args.folder.now).stands _ c.in_ok-board-2.field-0.board c.in_ok-board-2.field-0.shelf (λ images. AreLinePlies c.args.query.longest images c.in_ok-board-2.field-0.board c.in_ok-plies-2.plies.plies.items c.in_ok-plies-2.plies.repeat) c.if-query.false (subst (λ text. IsAsked (g.F.Folder.state c.args.folder.now).stands text c.in_ok-board-2.field-0.shelf c.in_ok-board-2.field-0.board) c.as_bytes-text.ensures.value c.in_ok-board-2.ensures.asked) c.in_ok-plies-2.ensures.known c.in_ok-plies-2.ensures.plies)

pub returns-in_err-board-clause-fault : goal.returns-in_err-board-clause-fault
returns-in_err-board-clause-fault g c =
    err_same c.from_residual.result _ _ c.from_residual.ensures.1 (unknown_opened _ _ _ _ _ c.as_bytes-text.ensures.value _ _ _ c.if-query.true c.in_err-board.ensures.fault)

pub returns-in_err-plies-clause-fault : goal.returns-in_err-plies-clause-fault
returns-in_err-plies-clause-fault g c =
    err_same c.from_residual-in_err-plies.result _ _ c.from_residual-in_err-plies.ensures.1 (unknown_read _ _ _ _ _ c.as_bytes-text.ensures.value _ _ _ c.in_ok-board.field-0.opened _ c.if-query.true c.in_ok-board.ensures.opened c.in_ok-board.ensures.known (plies_before _ _ _ _ _ c.open_level_of.ensures.same c.in_err-plies.ensures.fault))

pub returns-in_err-board-2-clause-fault : goal.returns-in_err-board-2-clause-fault
returns-in_err-board-2-clause-fault g c =
    err_same c.from_residual-in_err-board-2.result _ _ c.from_residual-in_err-board-2.ensures.1 (unknown_asked _ _ _ _ _ c.as_bytes-text.ensures.value _ _ _ c.if-query.false c.in_err-board-2.ensures.fault)

pub returns-in_err-plies-2-clause-fault : goal.returns-in_err-plies-2-clause-fault
returns-in_err-plies-2-clause-fault g c =
    err_same c.from_residual-in_err-plies-2.result _ _ c.from_residual-in_err-plies-2.ensures.1 (unknown_shelved _ _ _ _ _ c.as_bytes-text.ensures.value _ _ c.in_ok-board-2.field-0.shelf _ _ c.if-query.false c.in_ok-board-2.ensures.asked c.in_err-plies-2.ensures.fault)
