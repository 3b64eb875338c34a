use Rattle.awari_theory.proofs.Comes.{comes}
use Rattle.awari_theory.proofs.laws.plans_come_to_the_value.Goals as goal

pub returns : goal.returns
returns c = comes
