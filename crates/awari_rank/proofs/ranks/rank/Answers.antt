use Rattle.std.proofs.lemmas.Grind.{common_steps}
use Rattle.std.proofs.Common.{arith}
use Rattle.awari_rank.proofs.ranks.rank.Goals as goal

pub loop-pit-preserved : goal.loop-pit-preserved
loop-pit-preserved c = grind (arith, common_steps)

pub overflow_add-larger : goal.overflow_add-larger
overflow_add-larger c = grind (arith, common_steps)
