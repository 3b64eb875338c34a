use Rattle.std.proofs.Common.{arith}
use Rattle.awari_packed.proofs.FallTables.{last_at, last_is}
use Rattle.awari_packed.proofs.scattering.last_of.Goals as goal

pub returns : goal.returns
unfolding last_at
returns c = last_is c.args.origin c.args.stones c.requires.pit (omega arith)
