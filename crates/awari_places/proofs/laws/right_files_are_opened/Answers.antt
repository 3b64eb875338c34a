use Rattle.awari_places.proofs.Saying.{same_levels}
use Rattle.awari_places.proofs.laws.right_files_are_opened.Goals as goal

pub returns : goal.returns
returns c = same_levels
