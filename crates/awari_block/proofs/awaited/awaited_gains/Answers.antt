use Rattle.std.proofs.Common.{sym, ◌∙◌, rules, arith}
use Rattle.std.proofs.lemmas.List.{get_or_default}
use Rattle.awari_block.specs.declared.awaited.TheConstants.{NO_GAIN}
use Rattle.awari_block.proofs.Awaiting.{filled_all, filled_more, filled_none}
use Rattle.awari_block.proofs.awaited.awaited_gains.Goals as goal

pub loop-index-init : goal.loop-index-init
loop-index-init c = filled_none c.args.level NO_GAIN c.args.cells.now _ (search rules)

pub loop-index-preserved : goal.loop-index-preserved
loop-index-preserved c =
    filled_more c.args.level c.loop-index.index _ NO_GAIN c.args.cells.now c.loop-index.awaits.items c.awaited_gain.result _ c.loop-index-test.true (get_or_default _ _ _ _ c.loop-index-test.true ∙ sym c.index-cells-index.is) c.awaited_gain.ensures.some c.awaited_gain.ensures.only c.unwrap_or.ensures c.loop-index.invariant

pub returns-clause-told : goal.returns-clause-told
returns-clause-told c = filled_all c.args.level NO_GAIN c.loop-index.index c.args.cells.now _ c.loop-index-test.false c.loop-index.invariant

pub returns-clause-none : goal.returns-clause-none
returns-clause-none c = λ k below. c.loop-index.invariant.none k (let end = c.loop-index-test.false in omega (arith, below, end))
