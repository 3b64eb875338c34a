use Rattle.std.proofs.Common.{arith}
use Rattle.awari_packed.proofs.PairTables.{row, level_is, pair_fits}
use Rattle.awari_packed.proofs.pairs.level.Goals as goal

pub bounds-sums : goal.bounds-sums
bounds-sums c = pair_fits c.args.sums 5 (omega arith) c.requires.all c.requires.right

pub returns : goal.returns
unfolding row
returns c = level_is c.args.sums c.requires.all c.requires.right
