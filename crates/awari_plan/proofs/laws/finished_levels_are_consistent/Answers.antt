use Rattle.awari_plan.proofs.Closing.{finished_consistent}
use Rattle.awari_plan.proofs.laws.finished_levels_are_consistent.Goals as goal

pub returns : goal.returns
returns c = finished_consistent
