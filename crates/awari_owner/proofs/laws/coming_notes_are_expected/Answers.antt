use Rattle.awari_owner.proofs.Expecting.{note_can}
use Rattle.awari_owner.proofs.laws.coming_notes_are_expected.Goals as goal

pub returns : goal.returns
returns c = note_can c.ranks_tell_boards_apart.ensures
