use Rattle.std.proofs.Common.{◌≢◌, []}
use Rattle.std.proofs.lemmas.Result.{err_from_is_err_and}
use Rattle.awari_desk.proofs.Serves.{ends_here, ends_last, breaks_last}
use Rattle.awari_desk.proofs.services.finish.Goals as goal

pub returns-then-is_empty-clause-ends : goal.returns-then-is_empty-clause-ends
returns-then-is_empty-clause-ends g c first before taken s =
    ends_here first before taken _ _ _ s ((c.is_empty.ensures s.request s.holds).0 c.if-is_empty.true)

pub returns-in_err-respond-clause-ends : goal.returns-in_err-respond-clause-ends
returns-in_err-respond-clause-ends g c first before taken s =
    let some : s.request ≢ [] = (c.is_empty.ensures s.request s.holds).1 c.if-is_empty.false in
    let (answer, is, cut) = c.in_err-respond.ensures.responds s.request s.holds in
    let (front, rest, e, wrote) = cut in
    let p = err_from_is_err_and c.from_residual.result c.from_residual.ensures.1 in
    rw p.1 (breaks_last first before taken _ _ _ s answer _ is _ some front rest e wrote)

pub returns-clause-ends : goal.returns-clause-ends
returns-clause-ends g c first before taken s =
    let some : s.request ≢ [] = (c.is_empty.ensures s.request s.holds).1 c.if-is_empty.false in
    let (answer, is, said) = c.in_ok-respond.ensures.responds s.request s.holds in
    ends_last first before taken _ _ _ s answer _ is _ some said.1
