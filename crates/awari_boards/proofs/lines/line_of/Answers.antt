use Rattle.std.proofs.Common.{◌∙◌, ◌+◌, ap, arith, false, refl, subst, sum, sym}
use Rattle.awari_answers.specs.Asked.{IsAsked}
use Rattle.awari_places.proofs.Reading.{still_says}
use Rattle.awari_boards.specs.Known.{IsOpened}
use Rattle.awari_boards.proofs.Knowing.{known_right, known_said, limit_said}
use Rattle.awari_table.proofs.CertificateLemmas.{greatest_limit-take}
use Rattle.awari_play.specs.BestLine.{IsBestLine}
use Rattle.awari_table.specs.Images.{table_of}
use Rattle.awari_boards.specs.Lines.{SayLine}
use Rattle.awari_play.proofs.Lasting.{err_same}
use Rattle.awari_boards.proofs.Refusing.{plies_at, plies_before, same_then, unknown_asked, unknown_opened, unknown_read, unknown_shelved}
use Rattle.awari_boards.proofs.lines.line_of.Goals as goal

pub returns-then-query-clause-line : goal.returns-then-query-clause-line
returns-then-query-clause-line g c =
    record {
      board = c.in_ok-board.field-0.board;
      line = known_said _ (g.F.Folder.state c.args.folder.now).stands _ c.in_ok-board.field-0.board c.in_ok-board.field-0.opened (SayLine c.in_ok-board.field-0.board c.in_ok-entry.entry.value c.in_ok-line.line.moves.items c.in_ok-line.line.outcome) c.if-query.true (subst (λ text. IsOpened (g.F.Folder.state c.args.folder.now).stands text c.in_ok-board.field-0.board c.in_ok-board.field-0.opened) c.as_bytes-text.ensures.value c.in_ok-board.ensures.opened) c.in_ok-board.ensures.known (λ images says.
          let once = still_says _ _ _ images c.open_level_of.ensures.same says in
          record {
            valued = ap (λ e. e.value) (c.in_ok-entry.ensures.entry images once);
            line = subst (λ n. IsBestLine (table_of images) n c.in_ok-board.field-0.board c.in_ok-line.line.moves.items c.in_ok-line.line.outcome) (limit_said _ _ _ _ images c.in_ok-board.ensures.opened says)
                (c.in_ok-line.ensures.line images (still_says _ _ _ images c.entry.ensures.reads.unchanged.stands once));
          });
      comes = λ no. absurd (let yes = c.if-query.true in cc);
    }

pub returns-clause-line : goal.returns-clause-line
returns-clause-line g c =
    record {
      board = c.in_ok-board-2.field-0.board;
      line = known_right _ (g.F.Folder.state c.args.folder.now).stands _ c.in_ok-board-2.field-0.board c.in_ok-board-2.field-0.shelf (SayLine c.in_ok-board-2.field-0.board c.in-Ok.entry.value c.in_ok-line-2.line.moves.items c.in_ok-line-2.line.outcome) c.if-query.false (subst (λ text. IsAsked (g.F.Folder.state c.args.folder.now).stands text c.in_ok-board-2.field-0.shelf c.in_ok-board-2.field-0.board) c.as_bytes-text.ensures.value c.in_ok-board-2.ensures.asked) (c.in-Ok.ensures.known.0 refl) (record {
        valued = ap (λ e. e.value) c.in-Ok.ensures.entry;
        line = rw (sym c.limit.ensures) c.in_ok-line-2.ensures.line;
      });
      comes = λ _. c.in_ok-line-2.ensures.value (omega (arith, c.limit.ensures, greatest_limit-take c.in_ok-board-2.field-0.shelf (sum c.in_ok-board-2.field-0.board + 1))) ∙ sym (ap (λ e. e.value) c.in-Ok.ensures.entry);
    }

pub returns-in_err-board-clause-fault : goal.returns-in_err-board-clause-fault
returns-in_err-board-clause-fault g c =
    err_same c.from_residual.result _ _ c.from_residual.ensures.1 (unknown_opened _ _ _ _ _ c.as_bytes-text.ensures.value _ _ _ c.if-query.true c.in_err-board.ensures.fault)

pub returns-in_err-entry-clause-fault : goal.returns-in_err-entry-clause-fault
returns-in_err-entry-clause-fault g c =
    err_same c.from_residual-in_err-entry.result _ _ c.from_residual-in_err-entry.ensures.1 (unknown_read _ _ _ _ _ c.as_bytes-text.ensures.value _ _ _ c.in_ok-board.field-0.opened _ c.if-query.true c.in_ok-board.ensures.opened c.in_ok-board.ensures.known (plies_at false _ _ _ _ _ c.open_level_of.ensures.same c.in_ok-board.ensures.known c.in_err-entry.ensures.fault))

pub returns-in_err-line-clause-fault : goal.returns-in_err-line-clause-fault
returns-in_err-line-clause-fault g c =
    err_same c.from_residual-in_err-line.result _ _ c.from_residual-in_err-line.ensures.1 (unknown_read _ _ _ _ _ c.as_bytes-text.ensures.value _ _ _ c.in_ok-board.field-0.opened _ c.if-query.true c.in_ok-board.ensures.opened c.in_ok-board.ensures.known (plies_before false _ _ _ _ (same_then _ _ _ c.open_level_of.ensures.same c.entry.ensures.reads.unchanged.stands) c.in_err-line.ensures.fault))

pub returns-in_err-board-2-clause-fault : goal.returns-in_err-board-2-clause-fault
returns-in_err-board-2-clause-fault g c =
    err_same c.from_residual-in_err-board-2.result _ _ c.from_residual-in_err-board-2.ensures.1 (unknown_asked _ _ _ _ _ c.as_bytes-text.ensures.value _ _ _ c.if-query.false c.in_err-board-2.ensures.fault)

pub returns-in_err-line-2-clause-fault : goal.returns-in_err-line-2-clause-fault
returns-in_err-line-2-clause-fault g c =
    err_same c.from_residual-in_err-line-2.result _ _ c.from_residual-in_err-line-2.ensures.1 (unknown_shelved _ _ _ _ _ c.as_bytes-text.ensures.value _ _ c.in_ok-board-2.field-0.shelf _ _ c.if-query.false c.in_ok-board-2.ensures.asked c.in_err-line-2.ensures.fault)
