use Rattle.std.proofs.Common.{◌∙◌, sym, subst, ap}
use Rattle.awari_board.specs.Rules.{turned}
use Rattle.awari_unmove.specs.Undoing.{unmoves_after}
use Rattle.awari_unmove.specs.Predecessors.{IsPredecessors}
use Rattle.awari_unmove.proofs.Predecessors.{IsPredecessors-start, length-unmoves_after}
use Rattle.awari_unmove.proofs.unmoves.Unmoves.of.Goals as goal

pub returns : goal.returns
returns c = record {
  predecessors = subst (λ back. IsPredecessors c.args.board.now (unmoves_after back 0 0)) (sym (c.turned-back.ensures ∙ ap turned c.pits.ensures.pits)) (IsPredecessors-start c.args.board.now c.pits.ensures.board);
  few = length-unmoves_after _ 0 0;
}
