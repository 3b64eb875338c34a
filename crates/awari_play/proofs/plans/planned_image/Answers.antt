use Rattle.std.proofs.Common.{ap, ◌∙◌}
use Rattle.awari_table.specs.Images.{greatest_dist}
use Rattle.awari_play.proofs.Planned.{planned}
use Rattle.awari_play.proofs.plans.planned_image.Goals as goal

pub returns : goal.returns
returns c = planned _ _ _ _ c.levels.ensures.levels c.from.ensures (c.greatest_dist.ensures ∙ ap greatest_dist c.as_slice.ensures.value) c.set_lowest_plans.ensures.same c.set_lowest_plans.ensures.planned
