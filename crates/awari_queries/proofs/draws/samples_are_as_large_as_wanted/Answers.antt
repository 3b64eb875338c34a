use Rattle.awari_queries.proofs.Sampling.{sample-length}
use Rattle.awari_queries.proofs.draws.samples_are_as_large_as_wanted.Goals as goal

pub returns : goal.returns
returns c = sample-length
