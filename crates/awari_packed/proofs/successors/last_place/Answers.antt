use Rattle.std.proofs.Common.{arith}
use Rattle.awari_packed.proofs.Nexts.{lowest_of}
use Rattle.awari_packed.proofs.successors.last_place.Goals as goal

pub returns-clause-few : goal.returns-clause-few
returns-clause-few c = let low = lowest_of c.args.bits c.requires.packing c.requires.some (omega arith) in low.few

pub returns-clause-last : goal.returns-clause-last
returns-clause-last c = let low = lowest_of c.args.bits c.requires.packing c.requires.some (omega arith) in low.last
