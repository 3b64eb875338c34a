use Rattle.std.proofs.Common.{refl}
use Rattle.awari_play.proofs.weighing.weigh.Goals as goal

pub returns-clause-weighed : goal.returns-clause-weighed
returns-clause-weighed c = c.in-Ok.ensures.weighed _ refl
