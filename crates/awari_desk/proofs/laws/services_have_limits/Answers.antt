use Rattle.std.proofs.Common.{refl}
use Rattle.awari_desk.proofs.laws.services_have_limits.Goals as goal

pub returns : goal.returns
returns c = (refl, refl, refl)
