use Rattle.awari_packed.proofs.Halves.{joined_is}
use Rattle.awari_packed.proofs.words.joined.Goals as goal

pub returns : goal.returns
returns c = joined_is c.args.bits c.args.other c.requires.packing.0 c.requires.packing.1 c.requires.few
