use Rattle.std.proofs.Common.{◌≡◌, ◌+◌, suc, refl, subst, arith}
use Rattle.awari_segments.specs.Slices.{AreSlices}
use Rattle.awari_segments.proofs.Keeping.{go_none}
use Rattle.awari_segments.proofs.Going.{goes_both}
use Rattle.awari_segments.proofs.sliced.spread_slices.Goals as goal

pub loop-slice-init : goal.loop-slice-init
loop-slice-init c = record { goes_on = record { level = refl; parts = go_none _ }; slices = refl }

pub loop-slice-preserved : goal.loop-slice-preserved
loop-slice-preserved c =
    let slice = c.in_ok-after.ensures in
    let next : suc c.loop-slice._slice ≡ c.loop-slice._slice + 1 = omega arith in
    record {
      goes_on = goes_both _ _ _ c.loop-slice.invariant.goes_on slice.goes_on;
      slices = subst (λ n. AreSlices n c.args.draft c.in_ok-after.after) next (c.loop-slice.after, c.loop-slice.invariant.slices, slice);
    }
