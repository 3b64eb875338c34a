use Rattle.std.proofs.Common.{◌∙◌, sym}
use Rattle.awari_check.proofs.AnswerLaws.{printed_yes}
use Rattle.awari_cli.proofs.runs.run_check.Goals as goal

pub returns-then-print-clause-yes : goal.returns-then-print-clause-yes
returns-then-print-clause-yes g c = λ done.
    printed_yes c.check_input-answer.result _ _ _ (rw (c.new.ensures.inner) at c.check_input-answer.ensures.answer) (c.print.ensures c.if-print.true) (sym c.status.ensures ∙ done)
