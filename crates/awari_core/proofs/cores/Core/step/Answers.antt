use Rattle.awari_core.proofs.cores.Core.step.Goals as goal

pub returns-in-Spread-clause-sound : goal.returns-in-Spread-clause-sound
returns-in-Spread-clause-sound c = c.spread.ensures.sound

pub returns-in-Send-clause-sound : goal.returns-in-Send-clause-sound
returns-in-Send-clause-sound c = c.send.ensures.sound

pub returns-in-Take-clause-sound : goal.returns-in-Take-clause-sound
returns-in-Take-clause-sound c = c.take.ensures.sound
