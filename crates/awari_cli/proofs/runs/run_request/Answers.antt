use Rattle.std.proofs.Common.{subst, sym}
use Rattle.awari_words.specs.declared.requests.Request.{Request}
use Rattle.awari_cli.specs.Done.{LeavesFolders, WritesInto}
use Rattle.awari_cli.proofs.HostLaws.{written_leaves}
use Rattle.awari_cli.proofs.runs.run_request.Goals as goal

pub returns-in-Migrate-clause-leaves : goal.returns-in-Migrate-clause-leaves
returns-in-Migrate-clause-leaves g c =
    let old = g.H.Host.holds c.args.host.now in
    let new = g.H.Host.holds c.run_migration.new.host in
    subst (λ (request : Request). LeavesFolders g.H.Host.keeps (WritesInto request) old new) (sym c.in-Migrate.is)
    (written_leaves g.H.Host.keeps _ c.in-Migrate.to.now old new (λ other q. q) c.run_migration.ensures.others c.run_migration.ensures.kept)
