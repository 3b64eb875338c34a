use Rattle.std.proofs.Common.{Bor, List, Option, subst, sym, ℕ}
use Rattle.awari_cli.specs.Done.{IsFolder, LeavesFolders}
use Rattle.awari_cli.proofs.HostLaws.{at_level, written_leaves}
use Rattle.awari_cli.proofs.writing.run_build_asked.Goals as goal

pub returns-in-Some-clause-leaves : goal.returns-in-Some-clause-leaves
returns-in-Some-clause-leaves g c =
    let old = g.H.Host.holds c.args.host.now in
    let new = g.H.Host.holds c.run_build_on.new.host in
    subst (λ (folder : Option (Bor (List ℕ))). LeavesFolders g.H.Host.keeps (IsFolder folder) old new) (sym c.in-Some.is)
    (written_leaves g.H.Host.keeps _ c.in-Some.folder.now old new (λ other q. q) (λ other kept away. at_level (new other) (old other) (c.run_build_on.ensures.others other away))
    c.run_build_on.ensures.kept)
