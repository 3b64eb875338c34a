use Rattle.std.proofs.Common.{subst}
use Rattle.std.proofs.lemmas.Result.{err_from_is_err_and}
use Rattle.awari_table.proofs.ShelfLemmas.{IsLevel-consistent}
use Rattle.awari_folder.specs.Verifying.{IsPlaced, IsReadAs, IsVerdict}
use Rattle.awari_folder.proofs.Placing.{begins_sealed, misplaced_fault, misplaced_refusal, seal_refused}
use Rattle.awari_folder.proofs.loading.Stored.put_read.Goals as goal

pub returns-in_err-place-clause-exact : goal.returns-in_err-place-clause-exact
returns-in_err-place-clause-exact g c = λ bytes known is.
    let p = err_from_is_err_and c.from_residual.result c.from_residual.ensures.1 in
    rw (p.1, p.2) (misplaced_fault _ _ c.in-Ok.file _ c.in_err-place.field-0.0 bytes known c.levels-level.ensures.levels (subst (λ r. IsReadAs r bytes known) c.in-Ok.is is) c.in_err-place.ensures.misplaced)

pub returns-in_err-place-clause-refused : goal.returns-in_err-place-clause-refused
returns-in_err-place-clause-refused g c =
    let p = err_from_is_err_and c.from_residual.result c.from_residual.ensures.1 in
    rw (p.1, p.2, c.in-Ok.is) (misplaced_refusal (IsPlaced g.V.Verifier.lacks c.args.self.now.shelf c.args.self.now.digest) _ _ _ _ c.in-Ok.file c.in_err-place.field-0.0 c.levels-level.ensures.levels c.in_err-place.ensures.misplaced)

pub returns-in-Ok-Some-Memory-clause-exact : goal.returns-in-Ok-Some-Memory-clause-exact
returns-in-Ok-Some-Memory-clause-exact g c = λ bytes known is.
    begins_sealed c.in-Ok.file bytes known (subst (λ r. IsReadAs r bytes known) c.in-Ok.is is) c.in-Ok-Some-Memory.ensures.0

pub returns-in-Err-verify-clause-exact : goal.returns-in-Err-verify-clause-exact
returns-in-Err-verify-clause-exact g c = λ bytes known is.
    seal_refused c.in-Ok.file bytes known c.args.self.now.shelf c.args.self.now.digest c.levels-level.result c.in-Err-verify.fault c.levels-level.ensures.levels (subst (λ r. IsReadAs r bytes known) c.in-Ok.is is) c.in-Err-verify.ensures

pub new-requires : goal.new-requires
new-requires g c = IsLevel-consistent c.args.self.now.shelf c.in-Ok.file.loaded.image (subst (IsVerdict _ c.args.self.now.shelf c.in-Ok.file.loaded.image) c.in-Ok-None.field-0-is c.in-Ok-None.ensures.1).0

pub returns-in_err-new-clause-exact : goal.returns-in_err-new-clause-exact
returns-in_err-new-clause-exact g c = λ bytes known is.
    let p = err_from_is_err_and c.from_residual-in_err-new.result c.from_residual-in_err-new.ensures.1 in
    rw (p.1, p.2) (begins_sealed c.in-Ok.file bytes known (subst (λ r. IsReadAs r bytes known) c.in-Ok.is is) c.in-Ok-None.ensures.0)
