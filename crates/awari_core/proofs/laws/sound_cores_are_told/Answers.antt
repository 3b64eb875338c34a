use Rattle.std.proofs.Common.{length, arith}
use Rattle.awari_table.specs.Images.{table_of}
use Rattle.awari_core.specs.Core.{coming}
use Rattle.awari_core.proofs.Telling.{nothing_comes}
use Rattle.awari_core.proofs.laws.sound_cores_are_told.Goals as goal

pub returns-clause-whole : goal.returns-clause-whole
returns-clause-whole c core sound = c.sound_parts_are_told.ensures.whole (table_of core.shelf).value (length core.shelf) core.parts (coming core) _ sound.some sound.sound

pub returns-clause-fit : goal.returns-clause-fit
returns-clause-fit c core sound =
    c.distances_fit.ensures.settled (table_of core.shelf).value (length core.shelf) core.parts (returns-clause-whole c core sound) (let l = sound.low in omega (arith, l))
    (c.sound_parts_are_told.ensures.told (table_of core.shelf).value (length core.shelf) core.parts (coming core) _ sound.some sound.sound)

pub returns-clause-heard : goal.returns-clause-heard
returns-clause-heard c core sound all =
    c.sound_parts_are_told.ensures.heard (table_of core.shelf).value (length core.shelf) core.parts (coming core) _ sound.some sound.sound
    (λ i j low low' apart. nothing_comes core all i j (let s = sound.senders in omega (arith, low, s)))
