use Rattle.std.proofs.Common.{subst, arith, ◌+◌}
use Rattle.awari_table.specs.Images.{table_of}
use Rattle.awari_play.specs.Lowering.{Fell}
use Rattle.awari_play.specs.Planning.{with_top}
use Rattle.awari_play.proofs.Lowered.{below_fewer}
use Rattle.awari_play.proofs.Lowerings.{no_farther-then}
use Rattle.awari_play.proofs.lowering.lower.Goals as goal

pub loop-near-preserved : goal.loop-near-preserved
loop-near-preserved c =
    let fell = subst (Fell c.args.shelf.now c.loop-near.entries.items c.lower_beyond.new.entries.items c.loop-near.near) c.loop-near-test.true c.lower_beyond.ensures.fell in record {
      nearer = no_farther-then _ _ _ c.loop-near.invariant.nearer c.lower_beyond.ensures.nearer;
      above = c.lower_beyond.ensures.above;
      below = λ p is stones.
          below_fewer (table_of (with_top c.args.shelf.now c.lower_beyond.new.entries.items)) p (c.loop-near.near + 1) c.saturating_add-near.result (omega (arith, c.saturating_add-near.ensures)) (fell.1 p is stones);
    }
