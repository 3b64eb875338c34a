use Rattle.std.proofs.Common.{refl, subst}
use Rattle.awari_answers.specs.Asked.{IsAsked}
use Rattle.awari_places.proofs.Reading.{still_says}
use Rattle.awari_boards.specs.Known.{IsOpened}
use Rattle.awari_boards.proofs.Knowing.{known_right, known_said}
use Rattle.awari_play.specs.Worths.{IsWeighed}
use Rattle.awari_play.proofs.Lasting.{err_same}
use Rattle.awari_places.specs.Lasting.{look_before}
use Rattle.awari_boards.proofs.Refusing.{few_levels, unknown_asked, unknown_opened, unknown_read, unknown_shelved}
use Rattle.awari_boards.proofs.worths.weigh_board.Goals as goal

pub returns-then-query-clause-weighed : goal.returns-then-query-clause-weighed
returns-then-query-clause-weighed g c =
    known_said _ (g.F.Folder.state c.args.folder.now).stands _ c.in_ok-board.field-0.board c.in_ok-board.field-0.opened (λ images. IsWeighed c.args.query.replies images c.in_ok-board.field-0.board c.in_ok-weighed.weighed) c.if-query.true (subst (λ text. IsOpened (g.F.Folder.state c.args.folder.now).stands text c.in_ok-board.field-0.board c.in_ok-board.field-0.opened) c.as_bytes-text.ensures.value c.in_ok-board.ensures.opened) c.in_ok-board.ensures.known (λ images says. c.in_ok-weighed.ensures.weighed images (still_says _ _ _ images c.open_level_of.ensures.same says))

pub returns-clause-weighed : goal.returns-clause-weighed
returns-clause-weighed g c =
    known_right _ (g.F.Folder.state c.args.folder.now).stands _ c.in_ok-board-2.field-0.board c.in_ok-board-2.field-0.shelf (λ images. IsWeighed c.args.query.replies images c.in_ok-board-2.field-0.board c.in_ok-weighed-2.weighed) c.if-query.false (subst (λ text. IsAsked (g.F.Folder.state c.args.folder.now).stands text c.in_ok-board-2.field-0.shelf c.in_ok-board-2.field-0.board) c.as_bytes-text.ensures.value c.in_ok-board-2.ensures.asked) (c.in_ok-weighed-2.ensures.known.0 refl) c.in_ok-weighed-2.ensures.weighed

pub returns-in_err-board-clause-fault : goal.returns-in_err-board-clause-fault
returns-in_err-board-clause-fault g c =
    err_same c.from_residual.result _ _ c.from_residual.ensures.1 (unknown_opened _ _ _ _ _ c.as_bytes-text.ensures.value _ _ _ c.if-query.true c.in_err-board.ensures.fault)

pub returns-in_err-weighed-clause-fault : goal.returns-in_err-weighed-clause-fault
returns-in_err-weighed-clause-fault g c =
    err_same c.from_residual-in_err-weighed.result _ _ c.from_residual-in_err-weighed.ensures.1 (unknown_read _ _ _ _ _ c.as_bytes-text.ensures.value _ _ _ c.in_ok-board.field-0.opened _ c.if-query.true c.in_ok-board.ensures.opened c.in_ok-board.ensures.known (look_before _ _ _ _ c.open_level_of.ensures.same c.in_err-weighed.ensures.fault))

pub returns-in_err-board-2-clause-fault : goal.returns-in_err-board-2-clause-fault
returns-in_err-board-2-clause-fault g c =
    err_same c.from_residual-in_err-board-2.result _ _ c.from_residual-in_err-board-2.ensures.1 (unknown_asked _ _ _ _ _ c.as_bytes-text.ensures.value _ _ _ c.if-query.false c.in_err-board-2.ensures.fault)

pub returns-in_err-weighed-2-clause-fault : goal.returns-in_err-weighed-2-clause-fault
returns-in_err-weighed-2-clause-fault g c =
    err_same c.from_residual-in_err-weighed-2.result _ _ c.from_residual-in_err-weighed-2.ensures.1 (unknown_shelved _ _ _ _ _ c.as_bytes-text.ensures.value _ _ c.in_ok-board-2.field-0.shelf _ _ c.if-query.false c.in_ok-board-2.ensures.asked (c.in_err-weighed-2.ensures.not_yet, few_levels _ _ c.in_err-weighed-2.ensures.known))
