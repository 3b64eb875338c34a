use Rattle.std.proofs.Common.{arith}
use Rattle.awari_packed.proofs.FallTables.{at, scattered_is}
use Rattle.awari_packed.proofs.scattering.scattered.Goals as goal

pub returns : goal.returns
unfolding at
returns c = scattered_is c.args.origin c.args.stones c.requires.pit (omega arith)
