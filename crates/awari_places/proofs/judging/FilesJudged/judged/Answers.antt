use Rattle.std.proofs.Common.{inl}
use Rattle.awari_table.specs.Images.{table_of}
use Rattle.awari_play.proofs.Lasting.{err_same}
use Rattle.awari_places.proofs.Refusing.{breach_at}
use Rattle.awari_places.proofs.judging.FilesJudged.judged.Goals as goal

pub returns-in-None-clause-right : goal.returns-in-None-clause-right
returns-in-None-clause-right g c = λ images says. c.in-None.ensures (table_of images) c.args.board.now (c.in_ok-seen.ensures.sees images says)

pub returns-in-Some-clause-fault : goal.returns-in-Some-clause-fault
returns-in-Some-clause-fault g c =
    breach_at _ _ c.args.board.now _ _ c.broken.ensures.board c.requires c.broken.ensures.told
    (λ images says. c.in-Some.ensures (table_of images) c.args.board.now (c.in_ok-seen.ensures.sees images says))

pub returns-in_err-seen-clause-fault : goal.returns-in_err-seen-clause-fault
returns-in_err-seen-clause-fault g c =
    let is = c.in_err-seen.ensures.fault in
    err_same c.from_residual.result _ _ c.from_residual.ensures.1 (inl (record { board = is.board; known = is.known; here = is.here }))
