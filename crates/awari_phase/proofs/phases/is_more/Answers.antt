use Rattle.awari_phase.proofs.Gaining.{all_grown_trans}
use Rattle.awari_phase.proofs.phases.is_more.Goals as goal

pub returns-clause-grown : goal.returns-clause-grown
returns-clause-grown c = all_grown_trans c.args.owners.now c.is_wave_done.new.owners c.open_waves.new.owners c.is_wave_done.ensures.grown c.open_waves.ensures.grown

pub returns-clause-together : goal.returns-clause-together
returns-clause-together c = λ value n t. c.open_waves.ensures.together value n (c.is_wave_done.ensures.together value n t)
