use Rattle.std.proofs.Common.{ap, refl, subst, true}
use Rattle.awari_answers.specs.Asked.{IsAsked}
use Rattle.awari_places.proofs.Reading.{still_says}
use Rattle.awari_boards.specs.Known.{IsOpened}
use Rattle.awari_boards.proofs.Knowing.{known_right, known_said}
use Rattle.awari_boards.specs.Lines.{SayLongest}
use Rattle.awari_play.proofs.Lasting.{err_same}
use Rattle.awari_boards.proofs.Refusing.{plies_at, plies_before, same_then, unknown_asked, unknown_opened, unknown_read, unknown_shelved}
use Rattle.awari_boards.proofs.lines.longest_line_of.Goals as goal

pub returns-then-query-clause-line : goal.returns-then-query-clause-line
returns-then-query-clause-line g c = (
  c.in_ok-board.field-0.board,
  known_said _ (g.F.Folder.state c.args.folder.now).stands _ c.in_ok-board.field-0.board c.in_ok-board.field-0.opened (SayLongest c.in_ok-board.field-0.board c.in_ok-entry.entry.value c.in_ok-entry.entry.dist c.in_ok-moves.moves.items) c.if-query.true (subst (λ text. IsOpened (g.F.Folder.state c.args.folder.now).stands text c.in_ok-board.field-0.board c.in_ok-board.field-0.opened) c.as_bytes-text.ensures.value c.in_ok-board.ensures.opened) c.in_ok-board.ensures.known (λ images says.
      let once = still_says _ _ _ images c.open_level_of.ensures.same says in
      record {
        valued = ap (λ e. e.value) (c.in_ok-entry.ensures.entry images once);
        far = ap (λ e. e.dist) (c.in_ok-entry.ensures.entry images once);
        line = c.in_ok-moves.ensures.line images (still_says _ _ _ images c.entry.ensures.reads.unchanged.stands once);
      }),
)

pub returns-clause-line : goal.returns-clause-line
returns-clause-line g c =
    (c.in_ok-board-2.field-0.board, known_right _ (g.F.Folder.state c.args.folder.now).stands _ c.in_ok-board-2.field-0.board c.in_ok-board-2.field-0.shelf (SayLongest c.in_ok-board-2.field-0.board c.in-Ok.entry.value c.in-Ok.entry.dist c.in_ok-moves-2.moves.items) c.if-query.false (subst (λ text. IsAsked (g.F.Folder.state c.args.folder.now).stands text c.in_ok-board-2.field-0.shelf c.in_ok-board-2.field-0.board) c.as_bytes-text.ensures.value c.in_ok-board-2.ensures.asked) (c.in-Ok.ensures.known.0 refl) (record { valued = ap (λ e. e.value) c.in-Ok.ensures.entry; far = ap (λ e. e.dist) c.in-Ok.ensures.entry; line = c.in_ok-moves-2.ensures.line }))

pub returns-in_err-board-clause-fault : goal.returns-in_err-board-clause-fault
returns-in_err-board-clause-fault g c =
    err_same c.from_residual.result _ _ c.from_residual.ensures.1 (unknown_opened _ _ _ _ _ c.as_bytes-text.ensures.value _ _ _ c.if-query.true c.in_err-board.ensures.fault)

pub returns-in_err-entry-clause-fault : goal.returns-in_err-entry-clause-fault
returns-in_err-entry-clause-fault g c =
    err_same c.from_residual-in_err-entry.result _ _ c.from_residual-in_err-entry.ensures.1 (unknown_read _ _ _ _ _ c.as_bytes-text.ensures.value _ _ _ c.in_ok-board.field-0.opened _ c.if-query.true c.in_ok-board.ensures.opened c.in_ok-board.ensures.known (plies_at true _ _ _ _ _ c.open_level_of.ensures.same c.in_ok-board.ensures.known c.in_err-entry.ensures.fault))

pub returns-in_err-moves-clause-fault : goal.returns-in_err-moves-clause-fault
returns-in_err-moves-clause-fault g c =
    err_same c.from_residual-in_err-moves.result _ _ c.from_residual-in_err-moves.ensures.1 (unknown_read _ _ _ _ _ c.as_bytes-text.ensures.value _ _ _ c.in_ok-board.field-0.opened _ c.if-query.true c.in_ok-board.ensures.opened c.in_ok-board.ensures.known (plies_before true _ _ _ _ (same_then _ _ _ c.open_level_of.ensures.same c.entry.ensures.reads.unchanged.stands) c.in_err-moves.ensures.fault))

pub returns-in_err-board-2-clause-fault : goal.returns-in_err-board-2-clause-fault
returns-in_err-board-2-clause-fault g c =
    err_same c.from_residual-in_err-board-2.result _ _ c.from_residual-in_err-board-2.ensures.1 (unknown_asked _ _ _ _ _ c.as_bytes-text.ensures.value _ _ _ c.if-query.false c.in_err-board-2.ensures.fault)

pub returns-in_err-moves-2-clause-fault : goal.returns-in_err-moves-2-clause-fault
returns-in_err-moves-2-clause-fault g c =
    err_same c.from_residual-in_err-moves-2.result _ _ c.from_residual-in_err-moves-2.ensures.1 (unknown_shelved _ _ _ _ _ c.as_bytes-text.ensures.value _ _ c.in_ok-board-2.field-0.shelf _ _ c.if-query.false c.in_ok-board-2.ensures.asked c.in_err-moves-2.ensures.fault)
