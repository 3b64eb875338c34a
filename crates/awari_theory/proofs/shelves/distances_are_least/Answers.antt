use Rattle.awari_theory.proofs.Truths.{distance-least}
use Rattle.awari_theory.proofs.Leasts.{least_unique}
use Rattle.awari_theory.proofs.shelves.distances_are_least.Goals as goal

pub returns-clause-is : goal.returns-clause-is
returns-clause-is c = distance-least

pub returns-clause-unique : goal.returns-clause-unique
returns-clause-unique c = least_unique
