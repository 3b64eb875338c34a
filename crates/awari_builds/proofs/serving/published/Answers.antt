use Rattle.std.proofs.Common.{arith, rules}
use Rattle.std.proofs.lemmas.Grind.{common_steps}
use Rattle.awari_builds.proofs.serving.published.Goals as goal

pub returns-clause-known : goal.returns-clause-known
returns-clause-known g c = grind (arith, common_steps)

pub returns-clause-shelf : goal.returns-clause-shelf
returns-clause-shelf g c = search rules
