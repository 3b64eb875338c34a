use Rattle.std.proofs.Common.{ap, ◌∙◌, arith}
use Rattle.awari_table.specs.Images.{table_of}
use Rattle.awari_play.specs.Planning.{with_top}
use Rattle.awari_play.proofs.Lowered.{nearest-none, nearest-more, nearest-all}
use Rattle.awari_play.proofs.lowering.nearest.Goals as goal

pub loop-pit-init : goal.loop-pit-init
loop-pit-init c = nearest-none (table_of (with_top c.args.shelf.now c.args.entries.now)) _ _ (c.from-nearest.ensures ∙ ap (λ e. e.dist) c.requires.own)

pub loop-pit-preserved : goal.loop-pit-preserved
loop-pit-preserved c =
    nearest-more (table_of (with_top c.args.shelf.now c.args.entries.now)) _ _ c.args.own.value _ c.reached.result _ (ap (λ e. e.value) c.requires.own) c.loop-pit.invariant c.reached.ensures c.nearer-nearest.ensures

pub returns : goal.returns
returns c = nearest-all (table_of (with_top c.args.shelf.now c.args.entries.now)) _ _ _ c.loop-pit.invariant (omega arith)
