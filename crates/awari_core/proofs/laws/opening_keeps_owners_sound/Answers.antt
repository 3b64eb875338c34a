use Rattle.awari_core.proofs.Sounding.{opened_sound}
use Rattle.awari_core.proofs.laws.opening_keeps_owners_sound.Goals as goal

pub returns : goal.returns
returns c = opened_sound
