use Rattle.std.proofs.Common.{IfOk, IfSome, subst, ap, ◌∙◌}
use Rattle.awari_crew.specs.Homes.{ComesHome}
use Rattle.awari_crew.specs.declared.members.Member.{Member}
use Rattle.awari_crew.specs.declared.starting.HomeOf.{HomeOf}
use Rattle.awari_crew.proofs.Homing.{stays_more}
use Rattle.awari_crew.proofs.starting.+stay_all.Goals as goal

pub returns-in-Ok-clause-home : goal.returns-in-Ok-clause-home
returns-in-Ok-clause-home g t c =
    stays_more c.pop.new.self.items c.args.members.items c.in-Some.member c.stay_all-others.result c.join.result c.with_last.result c.in-Some.ensures.items c.stay_all-others.ensures.home
    (subst (λ (u : Member). IfOk c.join.result (λ home. IfSome home (ComesHome u))) (ap (λ (p : HomeOf). p.0.value) c.in-Ok.ensures.ok ∙ c.of.ensures) c.join.ensures) c.with_last.ensures.home
