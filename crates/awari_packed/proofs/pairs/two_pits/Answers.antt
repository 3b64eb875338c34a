use Rattle.std.proofs.Common.{arith}
use Rattle.awari_packed.proofs.PairTables.{row, pair_is, pair_fits}
use Rattle.awari_packed.proofs.pairs.two_pits.Goals as goal

pub bounds-sums : goal.bounds-sums
bounds-sums c = pair_fits c.args.sums c.args.row (omega arith) c.requires.left c.requires.right

pub returns : goal.returns
unfolding row
returns c = pair_is c.args.sums c.args.row c.requires.row c.requires.right c.requires.left
