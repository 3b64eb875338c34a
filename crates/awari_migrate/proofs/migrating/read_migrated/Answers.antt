use Rattle.awari_folder.proofs.Placing.{read_as, refusal_tells}
use Rattle.awari_migrate.proofs.migrating.read_migrated.Goals as goal

pub returns-clause-ok : goal.returns-clause-ok
returns-clause-ok g c = read_as _ _ c.read_unsealed-read.result _ c.read_unsealed-read.ensures.found c.read_unsealed-read.ensures.fault c.migrated_of.ensures.ok

pub returns-clause-fault : goal.returns-clause-fault
returns-clause-fault g c = λ other. read_as _ _ c.read_unsealed-read.result _ c.read_unsealed-read.ensures.found c.read_unsealed-read.ensures.fault (λ bytes known is. c.migrated_of.ensures.fault bytes known other is)

pub returns-clause-refused : goal.returns-clause-refused
returns-clause-refused g c = refusal_tells _ _ c.read_unsealed-read.result _ _ _ c.migrated_of.ensures.refused c.read_unsealed-read.ensures.counted
