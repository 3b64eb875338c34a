use Rattle.std.proofs.Common.{subst}
use Rattle.std.proofs.lemmas.Result.{err_from_is_err_and}
use Rattle.awari_folder.specs.Contents.{Opens}
use Rattle.awari_migrate.specs.Migration.{IsMigrationFault}
use Rattle.std.proofs.Common.{length, Some}
use Rattle.awari_folder.proofs.Opened.{of_name, not_open}
use Rattle.awari_migrate.proofs.Migrations.{fault_of_name}
use Rattle.awari_folder.proofs.States.{only_reads}
use Rattle.awari_migrate.proofs.migrating.next_migrated.Goals as goal

pub returns-in_err-migrated-in-Ok-Some-clause-exact : goal.returns-in_err-migrated-in-Ok-Some-clause-exact
returns-in_err-migrated-in-Ok-Some-clause-exact g c = λ name other is.
    let p = err_from_is_err_and c.from_residual.result c.from_residual.ensures.1 in
    let fault = c.in_err-migrated-in-Ok-Some.field-0.0 in
    let shelf = c.args.shelf.now in
    let below = c.args.below in
    let opened = subst (λ o. Opens g.F.File.Read.remaining ((g.F.Folder.state c.args.from.now).stands (length shelf)) o) c.in-Ok-Some.field-0-is (subst (λ n. Opens g.F.File.Read.remaining ((g.F.Folder.state c.args.from.now).stands n) c.in-Ok-Some.field-0) c.levels-level.ensures.levels c.in-Ok-Some.ensures.opened) in
    rw (p.1, p.2) (fault_of_name shelf below name other fault
    (of_name g.F.File.Read.remaining _ _ _ c.in-Ok-Some.file (λ bytes. IsMigrationFault shelf below (Some bytes) other fault) c.new.ensures.inner is opened (c.in_err-migrated-in-Ok-Some.ensures.fault other)))

pub returns-in_err-migrated-in-Ok-Some-clause-reads : goal.returns-in_err-migrated-in-Ok-Some-clause-reads
returns-in_err-migrated-in-Ok-Some-clause-reads g c =
    let p = err_from_is_err_and c.from_residual.result c.from_residual.ensures.1 in
    only_reads _ _ _ c.open.ensures.unchanged (rw (p.1, p.2) (not_open c.in_err-migrated-in-Ok-Some.field-0.0 _ _ c.in_err-migrated-in-Ok-Some.ensures.refused.of_file c.in-Ok-Some.ensures.refused))

pub returns-in_ok-migrated-in-Ok-Some-clause-reads : goal.returns-in_ok-migrated-in-Ok-Some-clause-reads
returns-in_ok-migrated-in-Ok-Some-clause-reads g c = only_reads _ _ _ c.open.ensures.unchanged c.in-Ok-Some.ensures.refused
