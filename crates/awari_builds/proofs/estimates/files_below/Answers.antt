use Rattle.std.proofs.Common.{sym, arith}
use Rattle.awari_builds.proofs.EstimateLaws.{files_more, files_none}
use Rattle.awari_builds.proofs.estimates.files_below.Goals as goal

pub loop-below-init : goal.loop-below-init
loop-below-init c = record { is = sym files_none; few = omega arith }

pub loop-below-preserved : goal.loop-below-preserved
loop-below-preserved c =
    let i = c.loop-below.invariant in
    record {
      is = omega (arith, files_more c.loop-below.below, i.is, c.file_len-bytes.ensures.bytes);
      few = omega (arith, i.few, c.file_len-bytes.ensures.few);
    }
