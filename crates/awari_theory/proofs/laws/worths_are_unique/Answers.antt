use Rattle.awari_theory.proofs.Worths.{worth_unique, worth_by, below_is}
use Rattle.awari_theory.proofs.laws.worths_are_unique.Goals as goal

pub returns-clause-unique : goal.returns-clause-unique
returns-clause-unique c = worth_unique

pub returns-clause-by_captures : goal.returns-clause-by_captures
returns-clause-by_captures c = worth_by

pub returns-clause-unbounded : goal.returns-clause-unbounded
returns-clause-unbounded c = below_is
