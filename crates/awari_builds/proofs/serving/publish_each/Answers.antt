use Rattle.awari_table.proofs.ShelfLemmas.{Consistent-level, take-read}
use Rattle.awari_builds.proofs.serving.publish_each.Goals as goal

pub publish-requires : goal.publish-requires
publish-requires g c = λ _.
    rw c.in_ok-try_clone.ensures (Consistent-level c.args.shelf.now _ c.loop-number.number _ c.levels-number-end.ensures.shelf c.level.ensures c.loop-number.invariant.1)

pub loop-number-preserved : goal.loop-number-preserved
loop-number-preserved g c =
    let step = take-read c.args.shelf.now c.loop-number.number c.level.result.now.value c.level.ensures in
    let published = c.in_ok-publish.ensures.published in
    let below = c.loop-number.invariant.1 in
    (c.loop-number.invariant.0, cc c.in_ok-try_clone.ensures)
