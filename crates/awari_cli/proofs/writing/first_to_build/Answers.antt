use Rattle.std.proofs.Common.{refl}
use Rattle.awari_cli.proofs.HostLaws.{all_stay}
use Rattle.awari_cli.proofs.writing.first_to_build.Goals as goal

pub returns-then-is_there : goal.returns-then-is_there
returns-then-is_there g c =
    all_stay g.H.Host.keeps c.in-Some.name.now (g.H.Host.holds c.args.host.now) (g.H.Host.holds c.open-folder.new.self) (g.H.Host.holds c.close.new.self)
    (g.H.Folder.Folder.state c.open-folder.result).stands (g.H.Folder.Folder.state c.open-folder.result).stands
    c.open-folder.ensures.opened c.open-folder.ensures.others (λ n. refl) c.close.ensures.closed c.close.ensures.others

pub returns-else-is_there : goal.returns-else-is_there
returns-else-is_there g c =
    all_stay g.H.Host.keeps c.in-Some.name.now (g.H.Host.holds c.args.host.now) (g.H.Host.holds c.open-folder.new.self) (g.H.Host.holds c.close.new.self)
    (g.H.Folder.Folder.state c.open-folder.result).stands (g.H.Folder.Folder.state c.open-folder.result).stands
    c.open-folder.ensures.opened c.open-folder.ensures.others (λ n. refl) c.close.ensures.closed c.close.ensures.others
