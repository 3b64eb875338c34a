use Rattle.awari_theory.proofs.Truths.{values-agree, distances-agree}
use Rattle.awari_theory.proofs.shelves.shelves_agree.Goals as goal

pub returns-clause-value : goal.returns-clause-value
returns-clause-value c = values-agree

pub returns-clause-dist : goal.returns-clause-dist
returns-clause-dist c = distances-agree
