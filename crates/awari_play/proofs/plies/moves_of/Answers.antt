use Rattle.std.proofs.Common.{subst, sym}
use Rattle.std.specs.Prelude.{IfErr, IfOk}
use Rattle.awari_play.specs.BestLine.{IsBestLine}
use Rattle.awari_play.specs.Plies.{IsLineBy}
use Rattle.awari_play.specs.Unplayed.{IsUnlined}
use Rattle.awari_table.specs.Images.{table_of}
use Rattle.awari_play.proofs.Lasting.{err_same}
use Rattle.awari_play.proofs.plies.moves_of.Goals as goal

pub returns-then-longest-clause-line : goal.returns-then-longest-clause-line
returns-then-longest-clause-line g c = λ images says limit.
    subst (λ b. IfOk c.longest_line_by.result (λ moves. IsLineBy b images c.args.board moves.items)) (sym c.if-longest.true) (c.longest_line_by.ensures.line images says)

pub returns-clause-line : goal.returns-clause-line
returns-clause-line g c = λ images says limit.
    subst (λ b. IsLineBy b images c.args.board c.in_ok-line.line.moves.items) (sym c.if-longest.false)
    (c.in_ok-line.line.outcome, subst (λ n. IsBestLine (table_of images) n c.args.board c.in_ok-line.line.moves.items c.in_ok-line.line.outcome) limit (c.in_ok-line.ensures.line images says))

pub returns-then-longest-clause-fault : goal.returns-then-longest-clause-fault
returns-then-longest-clause-fault g c = subst (λ b. IfErr c.longest_line_by.result (IsUnlined b g.T.Table.saying g.T.Judged.misjudges c.args.table.now)) (sym c.if-longest.true) c.longest_line_by.ensures.fault

pub returns-in_err-line-clause-fault : goal.returns-in_err-line-clause-fault
returns-in_err-line-clause-fault g c =
    err_same c.from_residual.result _ _ c.from_residual.ensures.1 (
    subst (λ b. IsUnlined b g.T.Table.saying g.T.Judged.misjudges c.args.table.now c.in_err-line.field-0.0) (sym c.if-longest.false) c.in_err-line.ensures.fault)
