use Rattle.std.proofs.Common.{arith, rules}
use Rattle.std.proofs.lemmas.Grind.{common_steps}
use Rattle.awari_block.proofs.cells.Cell.hear_won.Goals as goal

pub returns-then-self-gain-clause-steps : goal.returns-then-self-gain-clause-steps
returns-then-self-gain-clause-steps c =
    let fits = c.requires.fits in
    record { keeps = search rules; awaits = search rules; timely = search rules; fits = search rules }

pub returns-else-is_empty-clause-known : goal.returns-else-is_empty-clause-known
returns-else-is_empty-clause-known c = let fits = c.requires.fits in grind (arith, common_steps)

pub returns-else-is_empty-clause-steps : goal.returns-else-is_empty-clause-steps
returns-else-is_empty-clause-steps c =
    let fits = c.requires.fits in
    record { keeps = search rules; awaits = search rules; timely = search rules; fits = search rules }
