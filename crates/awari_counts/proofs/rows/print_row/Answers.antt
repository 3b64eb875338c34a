use Rattle.std.proofs.Common.{arith, refl}
use Rattle.awari_counts.proofs.LineLaws.{row-more, row-none, row-skip}
use Rattle.awari_counts.specs.RowHeads.{heads}
use Rattle.awari_counts.proofs.rows.print_row.Goals as goal

pub loop-place-init : goal.loop-place-init
loop-place-init g c = λ boards are. row-none c.args.form (heads c.args.form c.args.row) c.args.row.column boards _

pub loop-place-preserved-then-boards-eq0 : goal.loop-place-preserved-then-boards-eq0
loop-place-preserved-then-boards-eq0 g c = λ boards are.
    row-skip c.args.form (heads c.args.form c.args.row) c.args.row.column boards c.loop-place.place _ _ _ (c.loop-place.invariant boards are) (are c.loop-place.place (omega (arith, c.loop-place-test.true))) c.if-boards-eq0.true

pub loop-place-preserved : goal.loop-place-preserved
loop-place-preserved g c = λ boards are.
    row-more c.args.form (heads c.args.form c.args.row) c.args.row.column boards c.loop-place.place _ _ _ _ _ (c.loop-place.invariant boards are) (are c.loop-place.place (omega (arith, c.loop-place-test.true)))
    (omega arith) refl (c.print_share.ensures c.if-not-print_share.false)
