use Rattle.awari_phase.proofs.Looking.{sound_looked}
use Rattle.awari_phase.proofs.laws.owners_together_are_sound.Goals as goal

pub returns : goal.returns
returns c = sound_looked
