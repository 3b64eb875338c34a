use Rattle.std.proofs.Common.{refl}
use Rattle.awari_phase.proofs.Worked.{rounds, worked_grid}
use Rattle.awari_phase.proofs.rounding.round.Goals as goal

pub refused-requires-clause-grid : goal.refused-requires-clause-grid
refused-requires-clause-grid g c = worked_grid c.args.owners.items c.in_ok-all.all.items c.in_ok-all.ensures.worked c.requires.grid

pub returns-in-None-clause-rounds : goal.returns-in-None-clause-rounds
returns-in-None-clause-rounds g c = rounds c.args.owners.items c.in_ok-all.all.items c.as_slice.result.now c.as_slice.ensures.value c.in_ok-all.ensures.worked (c.in-None.ensures.none refl) c.requires.grid

pub returns-in-Some-clause-wanting : goal.returns-in-Some-clause-wanting
returns-in-Some-clause-wanting g c = λ value n small together. c.refused.ensures.wanting value n c.args.owners.items small together c.in_ok-all.ensures.worked
