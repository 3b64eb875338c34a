use Rattle.awari_builds.proofs.FolderBuilds.{keeps_on, prints_on}
use Rattle.awari_cli.proofs.writing.run_build_of.Goals as goal

pub returns-then-build-clause-built : goal.returns-then-build-clause-built
returns-then-build-clause-built g c = λ done.
    let b = c.build_up_in-status.ensures.built done in
    prints_on (g.F.Folder.state c.args.folder.now).stands (g.F.Folder.state c.load_watched.new.folder).stands (g.F.Folder.state c.build_up_in-status.new.folder).stands c.args.build.query.top
    c.in-Ok.stored.shelf c.build_up_in-status.new.stored.shelf c.in-Ok.stored.digest c.build_up_in-status.new.stored.digest _ _
    c.in-Ok.ensures.stored c.in-Ok.ensures.reads.unchanged.stands (b.shelf, b.high) (λ held. c.build_up_in-status.ensures.holds held done)
    b.planned b.built

pub returns-clause-built : goal.returns-clause-built
returns-clause-built g c = λ done.
    let b = c.build_up_in-done.ensures.built done in
    prints_on (g.F.Folder.state c.args.folder.now).stands (g.F.Folder.state c.load_watched.new.folder).stands (g.F.Folder.state c.build_up_in-done.new.folder).stands c.args.build.query.top
    c.in-Ok.stored.shelf c.build_up_in-done.new.stored.shelf c.in-Ok.stored.digest c.build_up_in-done.new.stored.digest _ _
    c.in-Ok.ensures.stored c.in-Ok.ensures.reads.unchanged.stands (b.shelf, b.high) (λ held. c.build_up_in-done.ensures.holds held done)
    b.planned b.built

pub returns-then-build-clause-keeps : goal.returns-then-build-clause-keeps
returns-then-build-clause-keeps g c = keeps_on (g.F.Folder.state c.args.folder.now).stands (g.F.Folder.state c.load_watched.new.folder).stands (g.F.Folder.state c.build_up_in-status.new.folder).stands
    (g.F.Folder.state c.args.folder.now).may_leave (g.F.Folder.state c.load_watched.new.folder).may_leave (g.F.Folder.state c.build_up_in-status.new.folder).may_leave c.args.build.query.top
    c.in-Ok.stored.shelf c.in-Ok.stored.digest
    c.in-Ok.ensures.stored c.in-Ok.ensures.reads.unchanged.stands c.in-Ok.ensures.reads.unchanged.crash c.build_up_in-status.ensures.same c.build_up_in-status.ensures.crash

pub returns-clause-keeps : goal.returns-clause-keeps
returns-clause-keeps g c = keeps_on (g.F.Folder.state c.args.folder.now).stands (g.F.Folder.state c.load_watched.new.folder).stands (g.F.Folder.state c.build_up_in-done.new.folder).stands
    (g.F.Folder.state c.args.folder.now).may_leave (g.F.Folder.state c.load_watched.new.folder).may_leave (g.F.Folder.state c.build_up_in-done.new.folder).may_leave c.args.build.query.top
    c.in-Ok.stored.shelf c.in-Ok.stored.digest
    c.in-Ok.ensures.stored c.in-Ok.ensures.reads.unchanged.stands c.in-Ok.ensures.reads.unchanged.crash c.build_up_in-done.ensures.same c.build_up_in-done.ensures.crash
