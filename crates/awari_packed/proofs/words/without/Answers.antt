use Rattle.awari_packed.proofs.Emptying.{without_fits, without_is}
use Rattle.awari_packed.proofs.words.without.Goals as goal

pub overflow_sub-result-2 : goal.overflow_sub-result-2
overflow_sub-result-2 c = without_fits c.args.bits c.args.i c.args.stones c.from.result c.requires.packing c.requires.pit c.requires.stones c.from.ensures

pub returns : goal.returns
returns c = without_is c.args.bits c.args.i c.args.stones c.from.result c.requires.packing c.requires.pit c.requires.stones c.from.ensures
