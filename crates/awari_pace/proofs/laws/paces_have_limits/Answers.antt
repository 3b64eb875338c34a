use Rattle.std.proofs.Common.{refl}
use Rattle.awari_pace.proofs.laws.paces_have_limits.Goals as goal

pub returns : goal.returns
returns c = (refl, refl, refl)
