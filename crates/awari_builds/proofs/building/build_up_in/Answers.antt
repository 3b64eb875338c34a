use Rattle.std.proofs.Common.{arith}
use Rattle.awari_builds.proofs.SavedLevels.{goes_on, leaves_files}
use Rattle.awari_builds.proofs.building.build_up_in.Goals as goal

pub loop-builder-preserved : goal.loop-builder-preserved
loop-builder-preserved g c =
    let e = c.save_and_build.ensures in
    let done = c.if-not-save_and_build.false in
    let (image, put) = e.built done in
    goes_on c.args.top c.args.stored.now.shelf c.loop-builder.stored.shelf c.save_and_build.new.stored.shelf image _ c.loop-builder.stored.digest c.save_and_build.new.stored.digest _ _ _ _ _ _
    c.loop-builder.invariant (omega (arith, c.levels-in-loop-builder.ensures.levels, c.loop-builder-test.true)) (e.saved done) put (e.planned done) e.adds

pub returns-then-not-save_and_build-clause-crash : goal.returns-then-not-save_and_build-clause-crash
returns-then-not-save_and_build-clause-crash g c = (leaves_files _ _ _ _ _ _ _ _ _ _ c.loop-builder.invariant c.save_and_build.ensures.adds).crash

pub returns-clause-crash : goal.returns-clause-crash
returns-clause-crash g c = (leaves_files _ _ _ _ _ _ _ _ _ _ c.loop-builder.invariant c.save_last.ensures.adds).crash
