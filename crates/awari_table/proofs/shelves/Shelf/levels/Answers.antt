use Rattle.std.proofs.lemmas.Grind.{common_steps}
use Rattle.std.proofs.Common.{arith}
use Rattle.awari_table.proofs.shelves.Shelf.levels.Goals as goal

pub returns-clause-levels : goal.returns-clause-levels
returns-clause-levels c = grind (arith, common_steps)
