use Rattle.awari_theory.proofs.Nears.{soon}
use Rattle.awari_theory.proofs.laws.plans_are_soon.Goals as goal

pub returns : goal.returns
returns c = soon
