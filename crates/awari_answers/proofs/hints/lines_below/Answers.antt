use Rattle.std.proofs.Common.{sym, arith}
use Rattle.awari_answers.proofs.LineCounts.{lines_more, lines_none}
use Rattle.awari_answers.proofs.hints.lines_below.Goals as goal

pub loop-below-init : goal.loop-below-init
loop-below-init c = record { is = sym lines_none; few = omega arith }

pub loop-below-preserved : goal.loop-below-preserved
loop-below-preserved c =
    let i = c.loop-below.invariant in
    record {
      is = omega (arith, lines_more c.loop-below.below, i.is, c.from.ensures, c.size.ensures.boards);
      few = omega (arith, i.few, c.from.ensures, c.size.type_inv);
    }
