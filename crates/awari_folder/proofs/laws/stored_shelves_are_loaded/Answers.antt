use Rattle.awari_folder.proofs.Saved.{stored_is_one}
use Rattle.awari_folder.proofs.laws.stored_shelves_are_loaded.Goals as goal

pub returns : goal.returns
returns c = stored_is_one
