use Rattle.awari_heard.proofs.Blocks.{puts_whole}
use Rattle.awari_plan.proofs.Closing.{finished_consistent, planned_finished}
use Rattle.awari_plan.proofs.finishing.finish.Goals as goal

pub planned_image-image-requires-clause-sized : goal.planned_image-image-requires-clause-sized
planned_image-image-requires-clause-sized c = (puts_whole _ _ _ c.requires.whole c.in_ok-entries.ensures).0

pub returns-clause-finished : goal.returns-clause-finished
returns-clause-finished c = planned_finished _ _ _ _ c.requires.whole c.in_ok-entries.ensures c.planned_image-image.ensures

pub returns-clause-consistent : goal.returns-clause-consistent
returns-clause-consistent c = λ heard. finished_consistent _ _ _ c.levels.ensures.shelf c.requires.low c.requires.whole c.requires.closed heard (returns-clause-finished c)
