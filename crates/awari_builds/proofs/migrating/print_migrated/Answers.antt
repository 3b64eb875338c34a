use Rattle.std.proofs.Common.{arith, subst}
use Rattle.std.proofs.KnownBytes.{Appends-nil}
use Rattle.std.proofs.lemmas.List.{take_all}
use Rattle.std.specs.Io.KnownBytes.{Appends}
use Rattle.awari_builds.specs.Migrating.{lines_from, migrated_lines}
use Rattle.awari_builds.proofs.MigratedLaws.{migrated_more}
use Rattle.awari_builds.proofs.migrating.print_migrated.Goals as goal

pub loop-level-init : goal.loop-level-init
unfolding lines_from
loop-level-init g c = Appends-nil _

pub loop-level-preserved : goal.loop-level-preserved
loop-level-preserved g c =
    migrated_more c.args.migrated.now c.loop-level.level _ _ _ _ c.loop-level-test.true c.loop-level.invariant (c.print.ensures c.if-not-print.false)

pub returns : goal.returns
returns g c = λ _.
    subst (λ migrated. Appends (g.W.Write.contents c.args.writer.now) (g.W.Write.contents c.loop-level.writer) (migrated_lines migrated))
    (take_all c.loop-level.level c.args.migrated.now (omega arith)) c.loop-level.invariant
