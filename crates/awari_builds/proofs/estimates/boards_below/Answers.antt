use Rattle.std.proofs.Common.{sym, arith}
use Rattle.awari_builds.proofs.EstimateLaws.{boards_more, boards_none}
use Rattle.awari_builds.proofs.estimates.boards_below.Goals as goal

pub loop-below-init : goal.loop-below-init
loop-below-init c = record { is = sym boards_none; few = omega arith }

pub loop-below-preserved : goal.loop-below-preserved
loop-below-preserved c =
    let i = c.loop-below.invariant in
    record {
      is = omega (arith, boards_more c.loop-below.below, i.is, c.from-boards.ensures, c.size.ensures.boards);
      few = omega (arith, i.few, c.from-boards.ensures, c.size.type_inv);
    }
