use Rattle.awari_theory.proofs.Comes.{ends}
use Rattle.awari_theory.proofs.laws.plays_end.Goals as goal

pub returns : goal.returns
returns c = ends
