use Rattle.awari_builds.proofs.FolderBuilds.{prints_on, keeps_on}
use Rattle.awari_builds.proofs.building.run_build_in.Goals as goal

pub returns-in-Ok-clause-built : goal.returns-in-Ok-clause-built
returns-in-Ok-clause-built g c = λ done.
    let b = c.build_up_in.ensures.built done in
    prints_on (g.F.Folder.state c.args.folder.now).stands (g.F.Folder.state c.load.new.folder).stands (g.F.Folder.state c.build_up_in.new.folder).stands c.args.top
    c.in-Ok.stored.shelf c.build_up_in.new.stored.shelf c.in-Ok.stored.digest c.build_up_in.new.stored.digest _ _
    c.in-Ok.ensures.exact c.in-Ok.ensures.reads.unchanged.stands (b.shelf, b.high) (λ held. c.build_up_in.ensures.holds held done)
    b.planned b.built

pub returns-in-Ok-clause-keeps : goal.returns-in-Ok-clause-keeps
returns-in-Ok-clause-keeps g c = keeps_on (g.F.Folder.state c.args.folder.now).stands (g.F.Folder.state c.load.new.folder).stands (g.F.Folder.state c.build_up_in.new.folder).stands
    (g.F.Folder.state c.args.folder.now).may_leave (g.F.Folder.state c.load.new.folder).may_leave (g.F.Folder.state c.build_up_in.new.folder).may_leave c.args.top
    c.in-Ok.stored.shelf c.in-Ok.stored.digest
    c.in-Ok.ensures.exact c.in-Ok.ensures.reads.unchanged.stands c.in-Ok.ensures.reads.unchanged.crash c.build_up_in.ensures.same c.build_up_in.ensures.crash
