use Rattle.std.proofs.Common.{refl}
use Rattle.awari_play.proofs.worths.worth_of.Goals as goal

pub returns : goal.returns
returns c = c.in-Ok.ensures.worth _ refl
