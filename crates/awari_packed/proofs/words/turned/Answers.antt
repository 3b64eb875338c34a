use Rattle.awari_packed.proofs.Halves.{turned_is}
use Rattle.awari_packed.proofs.words.turned.Goals as goal

pub returns : goal.returns
returns c = turned_is c.args.bits c.requires
