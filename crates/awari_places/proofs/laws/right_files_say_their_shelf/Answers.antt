use Rattle.awari_places.proofs.Saying.{shelf_said}
use Rattle.awari_places.proofs.laws.right_files_say_their_shelf.Goals as goal

pub returns : goal.returns
returns c = shelf_said
