use Rattle.awari_phase.proofs.Refusing.{wanting}
use Rattle.awari_phase.proofs.rounding.refused.Goals as goal

pub returns-clause-wanting : goal.returns-clause-wanting
returns-clause-wanting c =
    wanting c.coming_notes_are_expected.ensures c.distances_fit.ensures.settled c.sound_parts_are_told.ensures.whole c.sound_parts_are_told.ensures.told
    c.args.all.items c.settle_owners.new.all c.args.fault c.requires.grid c.requires.first
    (rw c.as_mut_slice.ensures.value at c.settle_owners.ensures.same) c.settle_owners.ensures.exact
