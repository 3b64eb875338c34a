use Rattle.awari_play.proofs.HoldingOut.{takes_is}
use Rattle.awari_table.specs.Images.{table_of}
use Rattle.awari_play.proofs.longest.takes.Goals as goal

pub returns-clause-takes : goal.returns-clause-takes
returns-clause-takes g c = λ images says. takes_is (table_of images) _ _ _ _ _ (c.in_ok-move_of.ensures.reached images says) c.from.ensures
