use Rattle.awari_builds.proofs.FolderBuilds.{prints_all}
use Rattle.awari_builds.proofs.building.run_build.Goals as goal

pub returns-clause-built : goal.returns-clause-built
returns-clause-built g c = λ done.
    let b = c.build_up.ensures.built done in
    prints_all c.args.top c.empty.result c.build_up.new.shelf _ _ c.empty.ensures (b.shelf, b.high) (c.build_up.ensures.no_more done) b.planned b.built
