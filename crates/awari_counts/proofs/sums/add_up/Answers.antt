use Rattle.std.proofs.Common.{◌+◌, ◌*◌, get_or, ◌∙◌, ap, sym, arith}
use Rattle.awari_rank.proofs.Counting.{total-add-one, total-zero}
use Rattle.awari_counts.proofs.LaneLaws.{total-next}
use Rattle.awari_counts.proofs.sums.add_up.Goals as goal

pub loop-cell-init : goal.loop-cell-init
loop-cell-init c = sym (total-zero (λ k. get_or c.args.counts.now (c.args.lane.first + k * c.args.lane.step) 0))

pub overflow_add-boards-in-loop-cell : goal.overflow_add-boards-in-loop-cell
overflow_add-boards-in-loop-cell c =
    omega (arith, c.requires.few, c.loop-cell.invariant, total-next (λ k. get_or c.args.counts.now (c.args.lane.first + k * c.args.lane.step) 0) c.loop-cell.cell c.args.lane.cells c.loop-cell-test.true)

pub loop-cell-preserved : goal.loop-cell-preserved
loop-cell-preserved c =
    ap (λ n. n + get_or c.args.counts.now (c.args.lane.first + c.loop-cell.cell * c.args.lane.step) 0) c.loop-cell.invariant
    ∙ sym (total-add-one (λ k. get_or c.args.counts.now (c.args.lane.first + k * c.args.lane.step) 0) c.loop-cell.cell)
