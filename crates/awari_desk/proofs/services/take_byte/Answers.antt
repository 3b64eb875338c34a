use Rattle.std.proofs.Common.{◌≡◌, arith}
use Rattle.std.proofs.lemmas.Result.{err_from_is_err_and}
use Rattle.awari_desk.proofs.Serves.{line_feed, line_breaks}
use Rattle.awari_desk.proofs.services.take_byte.Goals as goal

pub returns-in_err-quit-clause-feeds : goal.returns-in_err-quit-clause-feeds
returns-in_err-quit-clause-feeds g c first before taken s =
    let ten : c.args.byte ≡ 10 = grind (arith, c.if-byte-ne10.false) in
    let (answer, is, cut) = c.in_err-quit.ensures.responds s.request s.holds in
    let (front, rest, e, wrote) = cut in
    let p = err_from_is_err_and c.from_residual.result c.from_residual.ensures.1 in
    rw p.1 (line_breaks first before taken _ _ _ s c.args.byte ten answer _ is _ front rest e wrote)

pub returns-clause-feeds : goal.returns-clause-feeds
returns-clause-feeds g c first before taken s =
    let ten : c.args.byte ≡ 10 = grind (arith, c.if-byte-ne10.false) in
    let (answer, is, said) = c.in_ok-quit.ensures.responds s.request s.holds in
    line_feed first before taken _ _ _ s c.args.byte ten answer _ is _ c.in_ok-quit.quit c.new.result said.0 said.1 c.new.ensures
