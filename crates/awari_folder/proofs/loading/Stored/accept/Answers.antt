use Rattle.std.proofs.Common.{subst, sym}
use Rattle.std.proofs.lemmas.Result.{err_from_is_err_and}
use Rattle.awari_table.specs.Images.{IsLevel}
use Rattle.awari_table.proofs.ShelfLemmas.{IsLevel-consistent}
use Rattle.awari_folder.specs.Verifying.{IsVerdict}
use Rattle.awari_folder.proofs.Placing.{begins_sealed, seal_refused}
use Rattle.awari_folder.proofs.loading.Stored.accept.Goals as goal

pub returns-in-Err-clause-fault : goal.returns-in-Err-clause-fault
returns-in-Err-clause-fault c = λ bytes from.
    seal_refused c.args.candidate.file bytes from.0 c.args.self.now.shelf c.args.self.now.digest c.levels-level.result c.in-Err.fault c.levels-level.ensures.levels from.1 c.in-Err.ensures

pub returns-in_err-image-clause-fault : goal.returns-in_err-image-clause-fault
returns-in_err-image-clause-fault c =
    let p = err_from_is_err_and c.from_residual.result c.from_residual.ensures.1 in
    rw (p.1, p.2) (λ bytes from. begins_sealed c.args.candidate.file bytes from.0 from.1 c.in-Ok-None.ensures.0)

pub new-requires : goal.new-requires
new-requires c = subst IsLevel (sym c.in_ok-image.ensures)
    (IsLevel-consistent c.args.self.now.shelf c.args.candidate.file.loaded.image (subst (IsVerdict _ c.args.self.now.shelf c.args.candidate.file.loaded.image) c.in-Ok-None.field-0-is c.in-Ok-None.ensures.1).0)

pub returns-in_err-new-clause-fault : goal.returns-in_err-new-clause-fault
returns-in_err-new-clause-fault c =
    let p = err_from_is_err_and c.from_residual-in_err-new.result c.from_residual-in_err-new.ensures.1 in
    rw (p.1, p.2) (λ bytes from. begins_sealed c.args.candidate.file bytes from.0 from.1 c.in-Ok-None.ensures.0)
