use Rattle.std.proofs.Common.{Ok, ap, ◌∙◌}
use Rattle.awari_crew.proofs.Homing.{with_before}
use Rattle.awari_crew.proofs.starting.with_last.Goals as goal

pub returns-in-Ok-Some-clause-home : goal.returns-in-Ok-Some-clause-home
returns-in-Ok-Some-clause-home c = with_before c.args.others c.in-Ok-Some.all c.args.last c.with_home.result (c.in-Ok-Some.is ∙ ap Ok c.in-Ok-Some.field-0-is) c.with_home.ensures.home
