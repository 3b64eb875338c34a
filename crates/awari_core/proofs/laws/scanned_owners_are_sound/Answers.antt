use Rattle.awari_core.proofs.Sounding.{scanned_sound}
use Rattle.awari_core.proofs.laws.scanned_owners_are_sound.Goals as goal

pub returns : goal.returns
returns c = scanned_sound
