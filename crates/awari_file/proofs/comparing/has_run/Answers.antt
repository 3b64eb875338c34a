use Rattle.std.proofs.Common.{true, false}
use Rattle.awari_file.proofs.Meeting.{met_as}
use Rattle.awari_file.proofs.comparing.has_run.Goals as goal

pub returns-then-not-branch-clause-met : goal.returns-then-not-branch-clause-met
returns-then-not-branch-clause-met g c = λ left known. met_as _ false left _ _ _ c.if-not-branch.true c.spell_run-len.ensures.text (c.in_ok-has_next.ensures.met left known)

pub returns-clause-met : goal.returns-clause-met
returns-clause-met g c = λ left known. met_as _ true left _ _ _ c.if-not-branch.false c.spell_run-len.ensures.text (c.in_ok-has_next.ensures.met left known)
