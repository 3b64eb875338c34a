use Rattle.std.proofs.lemmas.Result.{err_from_is_err_and}
use Rattle.awari_exports.proofs.Begun.{begins_in}
use Rattle.awari_exports.proofs.storing.read_first.Goals as goal

pub returns-in_err-new-clause-refused : goal.returns-in_err-new-clause-refused
returns-in_err-new-clause-refused c =
    let p = err_from_is_err_and c.from_residual-in_err-new.result c.from_residual-in_err-new.ensures.1 in
    rw (p.1, p.2) (begins_in _ c.args.bytes.now c.in_ok-read.ensures.read)
