use Rattle.std.proofs.Common.{refl}
use Rattle.awari_play.proofs.Worthing.{replied}
use Rattle.awari_play.proofs.weighing.weighed_move.Goals as goal

pub returns-clause-replies : goal.returns-clause-replies
returns-clause-replies g c = λ images says. replied c.args.asked images c.args.board.now _ c.in_ok-replies_to.field-0 c.if-not-asked.false refl (c.in_ok-replies_to.ensures.replies images says)
