use Rattle.awari_theory.proofs.Worths.{value_is_worth}
use Rattle.awari_theory.proofs.laws.values_are_worths.Goals as goal

pub returns : goal.returns
returns c = value_is_worth
