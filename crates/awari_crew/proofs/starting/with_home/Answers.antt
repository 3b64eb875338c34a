use Rattle.std.proofs.Common.{Ok, ap, ◌∙◌}
use Rattle.awari_crew.proofs.starting.with_home.Goals as goal

pub returns-in_ok-push-in-Some-clause-home : goal.returns-in_ok-push-in-Some-clause-home
returns-in_ok-push-in-Some-clause-home c = (c.in-Some.home, c.in_ok-home.was ∙ ap Ok c.in-Some.is, c.in_ok-push-in-Some.ensures.items)
