use Rattle.awari_builds.proofs.SavedLevels.{adds_one, saves_one}
use Rattle.awari_builds.proofs.building.save_and_tell.Goals as goal

pub returns-in_err-own-clause-adds : goal.returns-in_err-own-clause-adds
returns-in_err-own-clause-adds g c = adds_one c.args.level.now c.args.below _ _ c.save_or_keep.ensures.outcome.leaves c.save_or_keep.ensures.kept

pub returns-then-print-clause-saved : goal.returns-then-print-clause-saved
returns-then-print-clause-saved g c =
    saves_one c.args.level.now c.line_of_level-line.result c.args.below c.in_ok-own.own _ _ _ _ c.in_ok-own.ensures.outcome.digest.1 c.in_ok-own.ensures.outcome.saved
    c.line_of_level-line.ensures (c.print.ensures c.if-print.true)

pub returns-then-print-clause-adds : goal.returns-then-print-clause-adds
returns-then-print-clause-adds g c = adds_one c.args.level.now c.args.below _ _ c.save_or_keep.ensures.outcome.leaves c.save_or_keep.ensures.kept

pub returns-else-print-clause-adds : goal.returns-else-print-clause-adds
returns-else-print-clause-adds g c = adds_one c.args.level.now c.args.below _ _ c.save_or_keep.ensures.outcome.leaves c.save_or_keep.ensures.kept
