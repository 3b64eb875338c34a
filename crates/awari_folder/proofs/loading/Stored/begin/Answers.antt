use Rattle.std.proofs.Common.{subst}
use Rattle.std.proofs.lemmas.Result.{err_from_is_err_and}
use Rattle.awari_folder.specs.Verifying.{IsReadAs}
use Rattle.awari_folder.proofs.Placing.{begins_read, misplaced_fault}
use Rattle.awari_folder.proofs.loading.Stored.begin.Goals as goal

pub returns-in_err-place-clause-fault : goal.returns-in_err-place-clause-fault
returns-in_err-place-clause-fault c = λ bytes known is.
    let p = err_from_is_err_and c.from_residual.result c.from_residual.ensures.1 in
    rw (p.1, p.2) (misplaced_fault _ _ c.in-Ok.file _ c.in_err-place.field-0.0 bytes known c.levels-level.ensures.levels (subst (λ r. IsReadAs r bytes known) c.in-Ok.is is) c.in_err-place.ensures.misplaced)

pub returns-in_err-file-clause-fault : goal.returns-in_err-file-clause-fault
returns-in_err-file-clause-fault c = λ bytes known is.
    let p = err_from_is_err_and c.from_residual-in_err-file.result c.from_residual-in_err-file.ensures.1 in
    rw (p.1, p.2) (begins_read c.in-Ok.file bytes known (subst (λ r. IsReadAs r bytes known) c.in-Ok.is is))
