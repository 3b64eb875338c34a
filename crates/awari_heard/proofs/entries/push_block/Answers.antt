use Rattle.std.proofs.Common.{subst, ◌∙◌}
use Rattle.std.proofs.lemmas.List.{get_or_default}
use Rattle.awari_block.specs.Cells.{view_of}
use Rattle.awari_block.specs.declared.cells.Cell.{Cell}
use Rattle.awari_heard.specs.Kept.{HasKept}
use Rattle.awari_heard.proofs.Blocks.{push_one}
use Rattle.awari_heard.proofs.entries.push_block.Goals as goal

pub loop-k-preserved : goal.loop-k-preserved
loop-k-preserved c =
    push_one _ _ _ _ _ _ c.loop-k.invariant c.in_ok-push.ensures.ok
    (subst (λ (cell : Cell). HasKept (view_of cell) c.entry_of.result) (c.index-cells-k.is ∙ get_or_default _ _ _ _ c.loop-k-test.true) c.entry_of.ensures)
