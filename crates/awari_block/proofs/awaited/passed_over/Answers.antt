use Rattle.std.proofs.Common.{arith, rules}
use Rattle.awari_block.proofs.Awaiting.{none_among}
use Rattle.awari_block.proofs.awaited.passed_over.Goals as goal

pub returns-then-not-is_among-clause-others : goal.returns-then-not-is_among-clause-others
returns-then-not-is_among-clause-others c = λ k inside from to.
    let end = c.min-end.ensures in
    none_among c.args.gain c.args.index c.min-end.result c.args.awaits.now (c.is_among.ensures (search rules)) k inside from (omega (arith, end, inside, to))
