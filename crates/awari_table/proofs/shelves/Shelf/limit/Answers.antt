use Rattle.awari_table.proofs.ShelfLemmas.{greatest_limit-read}
use Rattle.awari_table.proofs.shelves.Shelf.limit.Goals as goal

pub loop-number-preserved : goal.loop-number-preserved
loop-number-preserved c =
    let step = greatest_limit-read c.args.self.now c.loop-number.number c.level.result.now.value c.level.ensures in
    (c.loop-number.invariant.0, cc)
