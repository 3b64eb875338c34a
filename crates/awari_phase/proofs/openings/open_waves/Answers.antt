use Rattle.awari_phase.proofs.Gaining.{all_grown_waves}
use Rattle.awari_phase.proofs.Worked.{together_waves}
use Rattle.awari_phase.proofs.openings.open_waves.Goals as goal

pub returns-clause-grown : goal.returns-clause-grown
returns-clause-grown c = all_grown_waves c.args.owners.now c.open_each.new.owners c.args.dist c.open_each.ensures.many c.open_each.ensures.each c.requires.grid

pub returns-clause-together : goal.returns-clause-together
returns-clause-together c = λ value n together.
    together_waves value n c.args.owners.now c.open_each.new.owners c.args.dist c.open_each.ensures.many c.open_each.ensures.each c.requires.grid c.requires.received together
