use Rattle.std.proofs.Common.{arith}
use Rattle.awari_table.proofs.Spelled.{texts_more}
use Rattle.awari_table.proofs.spelling.write_shelf_text.Goals as goal

pub loop-number-preserved : goal.loop-number-preserved
loop-number-preserved g c =
    let i = c.loop-number.invariant in
    let more = texts_more c.args.shelf.now c.loop-number.number c.level.result.now.value _ _ _ c.levels-number-end.ensures.shelf c.level.ensures
    (rw c.deref.ensures at c.in_ok-write_level_text.ensures.image) i.wrote i.fits (rw c.deref.ensures at c.in_ok-write_level_text.ensures.written) in
    record { wrote = more.0; fits = more.1; grown = omega (arith, i.grown, c.write_level_text.ensures.faults) }
