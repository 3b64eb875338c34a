use Rattle.std.proofs.Common.{inl, subst}
use Rattle.std.proofs.lemmas.Result.{err_from_is_err_and}
use Rattle.awari_migrate.specs.Migration.{LacksLeast}
use Rattle.awari_folder.specs.Verifying.{IsReadAs}
use Rattle.awari_migrate.proofs.Migrations.{misplaced_migration, wrong_level}
use Rattle.awari_folder.proofs.Placing.{misplaced_refusal, seal_fails, sealed_file}
use Rattle.awari_migrate.proofs.migrating.migrated_of.Goals as goal

pub returns-in_err-place-clause-fault : goal.returns-in_err-place-clause-fault
returns-in_err-place-clause-fault c = λ bytes known other is.
    let p = err_from_is_err_and c.from_residual.result c.from_residual.ensures.1 in
    rw (p.1, p.2) (misplaced_migration _ _ c.in-Ok.file _ c.in_err-place.field-0.0 bytes known other c.levels-level.ensures.levels (subst (λ r. IsReadAs r bytes known) c.in-Ok.is is) c.in_err-place.ensures.misplaced)

pub returns-in_err-place-clause-refused : goal.returns-in_err-place-clause-refused
returns-in_err-place-clause-refused c =
    let p = err_from_is_err_and c.from_residual.result c.from_residual.ensures.1 in
    rw (p.1, p.2, c.in-Ok.is) (misplaced_refusal (LacksLeast c.args.shelf.now c.args.below) _ _ _ _ c.in-Ok.file c.in_err-place.field-0.0 c.levels-level.ensures.levels c.in_err-place.ensures.misplaced)

pub returns-in-Err-seal-clause-fault : goal.returns-in-Err-seal-clause-fault
returns-in-Err-seal-clause-fault c = λ bytes known other is.
    (c.levels-level.ensures.levels, inl (seal_fails c.in-Ok.file bytes known c.in-Err-seal.fault (subst (λ r. IsReadAs r bytes known) c.in-Ok.is is) c.in-Err-seal.ensures))

pub returns-in-Err-2-clause-fault : goal.returns-in-Err-2-clause-fault
returns-in-Err-2-clause-fault c = λ bytes known other is.
    let file = sealed_file c.in-Ok.file bytes known (subst (λ r. IsReadAs r bytes known) c.in-Ok.is is) c.in_default.ensures in
    wrong_level bytes c.args.shelf.now c.args.below other c.levels-level.result c.in-Ok.file.loaded c.in-Err-2.fault c.levels-level.ensures.levels file c.in_ok-place.ensures.ok.1 (rw c.in-Err-2.is at c.in_ok-migrated.ensures.fault)
