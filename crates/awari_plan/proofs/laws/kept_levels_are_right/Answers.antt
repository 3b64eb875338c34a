use Rattle.awari_plan.proofs.Closing.{kept_consistent}
use Rattle.awari_plan.proofs.Whole.{kept_lowest}
use Rattle.awari_plan.proofs.laws.kept_levels_are_right.Goals as goal

pub returns-clause-consistent : goal.returns-clause-consistent
returns-clause-consistent c = kept_consistent

pub returns-clause-planned : goal.returns-clause-planned
returns-clause-planned c = kept_lowest
