use Rattle.std.proofs.Common.{arith}
use Rattle.awari_table.specs.Images.{table_of}
use Rattle.awari_play.specs.Planning.{with_top}
use Rattle.awari_play.proofs.Lowered.{farthest-none, farthest-more, farthest-all}
use Rattle.awari_play.proofs.lowering.farthest.Goals as goal

pub loop-pit-init : goal.loop-pit-init
loop-pit-init c = farthest-none _ _

pub loop-pit-preserved : goal.loop-pit-preserved
loop-pit-preserved c = farthest-more (table_of (with_top c.args.shelf.now c.args.entries.now)) _ _ _ c.reached.result _ c.loop-pit.invariant c.reached.ensures c.farther-farthest.ensures

pub returns : goal.returns
returns c = farthest-all (table_of (with_top c.args.shelf.now c.args.entries.now)) _ _ _ c.loop-pit.invariant (omega arith)
