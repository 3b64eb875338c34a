use Rattle.std.proofs.Common.{arith, refl, subst}
use Rattle.awari_places.specs.Opening.{AreFramed}
use Rattle.awari_facts.proofs.loads.open_to.Goals as goal

pub returns-clause-framed : goal.returns-clause-framed
returns-clause-framed g c = λ names are. subst (λ most. AreFramed most names c.in_ok-opened.opened) c.min.ensures (c.in_ok-opened.ensures.exact names are)

pub returns-then-level-levels-clause-fault : goal.returns-then-level-levels-clause-fault
returns-then-level-levels-clause-fault g c = (
  omega arith,
  (c.in_ok-opened.opened, λ names are. subst (λ most. AreFramed most names c.in_ok-opened.opened) c.min.ensures (c.in_ok-opened.ensures.exact names are), refl),
)
