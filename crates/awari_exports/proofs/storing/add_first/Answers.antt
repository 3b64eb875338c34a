use Rattle.std.proofs.lemmas.Result.{err_from_is_err_and}
use Rattle.awari_folder.proofs.Placing.{begins_next}
use Rattle.awari_exports.proofs.storing.add_first.Goals as goal

pub returns-in_err-new-clause-refused : goal.returns-in_err-new-clause-refused
returns-in_err-new-clause-refused c =
    let p = err_from_is_err_and c.from_residual-in_err-new.result c.from_residual-in_err-new.ensures.1 in
    rw (p.1, p.2) (begins_next _ _ c.args.bytes.now _ _ c.in_ok-add.ensures.ok)
