use Rattle.std.proofs.Common.{refl}
use Rattle.awari_queries.proofs.HeldLaws.{holds-first}
use Rattle.awari_queries.proofs.holding.Holding.cut.Goals as goal

pub returns-clause-held : goal.returns-clause-held
returns-clause-held c = λ seen holds. holds-first seen c.args.self.now _ refl c.in_ok-keep_first.ensures (rw c.as_slice.ensures.value at c.bound_of-self.ensures) holds
