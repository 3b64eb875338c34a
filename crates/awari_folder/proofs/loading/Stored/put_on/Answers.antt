use Rattle.awari_folder.proofs.Placing.{read_as, refusal_tells}
use Rattle.awari_folder.proofs.loading.Stored.put_on.Goals as goal

pub returns-clause-exact : goal.returns-clause-exact
returns-clause-exact g c = read_as _ _ c.read_unsealed-read.result _ c.read_unsealed-read.ensures.found c.read_unsealed-read.ensures.fault c.put_read.ensures.exact

pub returns-clause-refused : goal.returns-clause-refused
returns-clause-refused g c = refusal_tells _ _ c.read_unsealed-read.result _ _ _ c.put_read.ensures.refused c.read_unsealed-read.ensures.counted
