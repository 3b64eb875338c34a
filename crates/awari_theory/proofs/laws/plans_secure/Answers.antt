use Rattle.awari_theory.proofs.Keeps.{secures}
use Rattle.awari_theory.proofs.laws.plans_secure.Goals as goal

pub returns : goal.returns
returns c = secures
