use Rattle.awari_play.proofs.Alike.{images_same, shelves_same}
use Rattle.awari_play.proofs.laws.lowest_levels_are_one.Goals as goal

pub returns-clause-image : goal.returns-clause-image
returns-clause-image c = images_same

pub returns-clause-shelf : goal.returns-clause-shelf
returns-clause-shelf c = shelves_same
