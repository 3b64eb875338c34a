use Rattle.std.proofs.Common.{◌<◌, ◌∙◌, length, ap, arith}
use Rattle.std.proofs.KnownBytes.{Appends-nil}
use Rattle.awari_levels.proofs.FolderLaws.{lines_more}
use Rattle.awari_levels.proofs.verifying.print_levels.Goals as goal

pub loop-level-init : goal.loop-level-init
loop-level-init g c = Appends-nil _

pub loop-level-preserved : goal.loop-level-preserved
loop-level-preserved g c =
    let counted = c.levels-level-end.ensures.levels in
    let inside : c.loop-level.level < length c.args.shelf.now = omega (arith, counted, c.loop-level-test.true) in
    lines_more c.args.shelf.now c.loop-level.level c.limit-limit.result _ _ _ _ c.levels-level-end.ensures.shelf inside c.level.ensures
    (c.limit-limit.ensures ∙ ap (λ m. m.limit) c.deref.ensures) c.loop-level.invariant (c.print.ensures c.if-not-print.false)
