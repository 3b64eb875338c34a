use Rattle.std.proofs.Common.{arith}
use Rattle.awari_table.proofs.ShelfLemmas.{greatest_limit-read}
use Rattle.awari_exports.proofs.lines.limit_below.Goals as goal

pub loop-number-preserved : goal.loop-number-preserved
loop-number-preserved c =
    let step = greatest_limit-read c.args.shelf.now c.loop-number.number c.level.result.now.value c.level.ensures in
    let e = c.max-limit.ensures in let i = c.loop-number.invariant in let l = c.limit.ensures in let d = c.deref.ensures in grind (arith, step, e, i, l, d)
