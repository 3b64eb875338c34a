use Rattle.std.proofs.Common.{◌++◌, take, sym}
use Rattle.std.proofs.lemmas.Bool.{false≢true}
use Rattle.std.proofs.lemmas.Result.{err_from_is_err_and}
use Rattle.awari_desk.proofs.Serves.{feeds_quit, feeds_breaks}
use Rattle.awari_desk.proofs.services.feed.Goals as goal

pub returns-in_err-take_byte-clause-feeds : goal.returns-in_err-take_byte-clause-feeds
returns-in_err-take_byte-clause-feeds g c first before taken s =
    let bytes = c.args.bytes.now in
    let i = c.loop-byte.byte-index in
    let p = err_from_is_err_and c.from_residual.result c.from_residual.ensures.1 in
    rw p.1 (feeds_breaks first before _ _ taken bytes i c.loop-byte-test.true (c.in_err-take_byte.ensures.feeds first before (taken ++ take i bytes) (c.loop-byte.invariant.serving first before taken s)))

pub returns-then-branch-clause-feeds : goal.returns-then-branch-clause-feeds
returns-then-branch-clause-feeds g c first before taken s =
    let bytes = c.args.bytes.now in
    let i = c.loop-byte.byte-index in
    let f = c.in_ok-take_byte.ensures.feeds first before (taken ++ take i bytes) (c.loop-byte.invariant.serving first before taken s) in
    (λ _ rest. feeds_quit first before _ _ taken bytes i c.loop-byte-test.true (f.0 c.if-branch.true) rest, λ no. absurd (false≢true (sym no)))
