use Rattle.std.proofs.Common.{arith}
use Rattle.awari_rank.proofs.Table.{at, table_is}
use Rattle.awari_rank.proofs.counts.fewer_after.Goals as goal

pub returns : goal.returns
unfolding at
returns c = table_is c.args.pit c.args.stones c.requires.pit (omega arith)
