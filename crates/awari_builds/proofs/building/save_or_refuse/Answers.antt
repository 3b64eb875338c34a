use Rattle.awari_builds.proofs.SavedLevels.{adds_top, on_top, saves_top}
use Rattle.awari_builds.proofs.building.save_or_refuse.Goals as goal

pub returns-in-Ok-Some-clause-saved : goal.returns-in-Ok-Some-clause-saved
returns-in-Ok-Some-clause-saved g c =
    saves_top c.args.stored.now.shelf c.deref.result.now c.args.stored.now.digest c.in-Ok-Some.own _ _ _ _
    (on_top _ _ _ _ c.requires c.levels-number.ensures.levels c.levels-number.ensures.shelf c.level-level.ensures c.deref.ensures) (rw (c.in-Ok-Some.field-0-is) at c.in-Ok-Some.ensures.saved)

pub returns-in-Ok-Some-clause-adds : goal.returns-in-Ok-Some-clause-adds
returns-in-Ok-Some-clause-adds g c = adds_top c.args.stored.now.shelf c.deref.result.now _ _ (on_top _ _ _ _ c.requires c.levels-number.ensures.levels c.levels-number.ensures.shelf c.level-level.ensures c.deref.ensures) c.save_and_tell.ensures.adds

pub returns-in-Ok-None-clause-adds : goal.returns-in-Ok-None-clause-adds
returns-in-Ok-None-clause-adds g c = adds_top c.args.stored.now.shelf c.deref.result.now _ _ (on_top _ _ _ _ c.requires c.levels-number.ensures.levels c.levels-number.ensures.shelf c.level-level.ensures c.deref.ensures) c.save_and_tell.ensures.adds

pub returns-in-Err-clause-adds : goal.returns-in-Err-clause-adds
returns-in-Err-clause-adds g c = adds_top c.args.stored.now.shelf c.deref.result.now _ _ (on_top _ _ _ _ c.requires c.levels-number.ensures.levels c.levels-number.ensures.shelf c.level-level.ensures c.deref.ensures) c.save_and_tell.ensures.adds
