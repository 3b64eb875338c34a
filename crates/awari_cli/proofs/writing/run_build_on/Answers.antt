use Rattle.awari_cli.proofs.HostLaws.{built_keeps, built_lines}
use Rattle.awari_cli.proofs.writing.run_build_on.Goals as goal

pub returns-clause-kept : goal.returns-clause-kept
returns-clause-kept g c = λ kept.
    built_keeps (g.H.Host.holds c.args.host.now c.args.asked.folder.now) (g.H.Folder.Folder.state c.open-folder.result).stands (g.H.Folder.Folder.state c.lock.new.folder).stands
    (g.H.Folder.Folder.state c.run_build_of-status.new.folder).stands (g.H.Host.holds c.close-2.new.self c.args.asked.folder.now)
    c.open-folder.ensures.opened c.lock.ensures.stands c.run_build_of-status.ensures.kept (c.close-2.ensures.closed kept)

pub returns-clause-built : goal.returns-clause-built
returns-clause-built g c = λ done.
    built_lines g.H.Host.keeps c.args.asked.build.query.top c.args.asked.folder.now (g.H.Host.holds c.args.host.now) (g.H.Host.holds c.close-2.new.self)
    (g.H.Folder.Folder.state c.open-folder.result).stands (g.H.Folder.Folder.state c.lock.new.folder).stands (g.H.Folder.Folder.state c.run_build_of-status.new.folder).stands _ _
    c.open-folder.ensures.opened c.lock.ensures.stands c.close-2.ensures.closed (c.run_build_of-status.ensures.built done)
