use Rattle.awari_table.proofs.TextLaws.{images_are}
use Rattle.awari_table.proofs.laws.texts_tell_images_apart.Goals as goal

pub returns : goal.returns
returns c = images_are
