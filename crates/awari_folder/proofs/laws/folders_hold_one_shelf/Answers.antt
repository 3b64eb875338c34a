use Rattle.awari_folder.proofs.Saved.{held_is_one}
use Rattle.awari_folder.proofs.laws.folders_hold_one_shelf.Goals as goal

pub returns : goal.returns
returns c = held_is_one
