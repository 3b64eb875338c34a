use Rattle.std.proofs.Common.{arith}
use Rattle.awari_builds.proofs.BuildLaws.{built_none, built_more}
use Rattle.awari_builds.proofs.FolderBuilds.{longer_by_one}
use Rattle.awari_builds.proofs.building.build_up.Goals as goal

pub loop-builder-init : goal.loop-builder-init
loop-builder-init g c = record { built = built_none _ _; planned = λ lowest. lowest; no_more = λ few. few }

pub loop-builder-preserved : goal.loop-builder-preserved
loop-builder-preserved g c =
    let (image, put, tells) = c.in-Ok.ensures.built in
    let i = c.loop-builder.invariant in
    record {
      built = built_more _ _ _ image c.in-Ok.told _ _ _ i.built put tells (c.print.ensures c.if-not-print.false);
      planned = λ lowest. c.in-Ok.ensures.planned (i.planned lowest);
      no_more = λ few. omega (arith, longer_by_one c.loop-builder.shelf image c.build_next.new.shelf put);
    }
