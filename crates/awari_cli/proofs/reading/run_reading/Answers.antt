use Rattle.awari_cli.proofs.HostLaws.{all_stay}
use Rattle.awari_cli.proofs.reading.run_reading.Goals as goal

pub returns-clause-same : goal.returns-clause-same
returns-clause-same g c =
    all_stay g.H.Host.keeps c.args.reading.folder.now (g.H.Host.holds c.args.host.now) (g.H.Host.holds c.open-folder.new.self) (g.H.Host.holds c.close.new.self)
    (g.H.Folder.Folder.state c.open-folder.result).stands (g.H.Folder.Folder.state c.run_question-status.new.folder).stands
    c.open-folder.ensures.opened c.open-folder.ensures.others c.run_question-status.ensures.same c.close.ensures.closed c.close.ensures.others
