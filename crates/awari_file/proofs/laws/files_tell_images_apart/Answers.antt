use Rattle.awari_file.proofs.WholeSpell.{told_apart}
use Rattle.awari_file.proofs.laws.files_tell_images_apart.Goals as goal

pub returns : goal.returns
returns c = told_apart
