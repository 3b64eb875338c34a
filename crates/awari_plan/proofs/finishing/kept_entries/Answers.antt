use Rattle.std.proofs.Common.{[], List, length, sym, subst}
use Rattle.awari_block.specs.declared.cells.Cell.{Cell}
use Rattle.awari_table.specs.declared.images.Entry.{Entry}
use Rattle.awari_heard.specs.Filling.{PushesBlock, PutsBlocks}
use Rattle.awari_heard.proofs.Blocks.{puts_more, puts_all}
use Rattle.awari_plan.proofs.finishing.kept_entries.Goals as goal

pub loop-part-preserved : goal.loop-part-preserved
loop-part-preserved c = puts_more _ _ _ _ _ _ c.loop-part-test.true c.part-item.is c.loop-part.invariant
    (subst (λ (cells : List Cell). PushesBlock cells c.loop-part.entries c.push_block.new.entries (length cells)) c.cells.ensures c.in_ok-push_block.ensures)

pub returns : goal.returns
returns c = subst (λ (es : List Entry). PutsBlocks c.args.parts.now [] es) (sym c.in_ok-entries.ensures) (puts_all _ _ _ _ c.loop-part-test.false c.loop-part.invariant)
