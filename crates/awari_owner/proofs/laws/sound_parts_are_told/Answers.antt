use Rattle.awari_owner.proofs.Levels.{shared_whole, sound_told, sound_heard}
use Rattle.awari_owner.proofs.laws.sound_parts_are_told.Goals as goal
use Rattle.std.proofs.Common.{length, refl}

pub returns-clause-whole : goal.returns-clause-whole
returns-clause-whole c value level parts coming taken some sound = shared_whole level (length parts) parts some refl sound.shares

pub returns-clause-told : goal.returns-clause-told
returns-clause-told c value level parts coming taken some sound = sound_told value level parts coming taken some sound

pub returns-clause-heard : goal.returns-clause-heard
returns-clause-heard c value level parts coming taken some sound arrived = sound_heard value level parts coming taken some sound arrived
