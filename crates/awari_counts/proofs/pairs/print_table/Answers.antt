use Rattle.std.proofs.Common.{arith, refl}
use Rattle.awari_counts.proofs.LineLaws.{lines-above, lines-below}
use Rattle.awari_counts.proofs.PairLaws.{row-all, row-wide, table-all}
use Rattle.awari_counts.specs.Pairs.{header_of, pair_row}
use Rattle.awari_counts.proofs.pairs.print_table.Goals as goal

pub loop-place-init : goal.loop-place-init
loop-place-init g c = λ images are.
    lines-above (header_of c.args.form c.args.table.pair) (pair_row c.args.form c.args.table.pair images c.args.table.level c.args.table.limit) _ _ (c.print_header.ensures c.if-not-print_header.false)

pub loop-place-preserved : goal.loop-place-preserved
loop-place-preserved g c = λ images are.
    lines-below (header_of c.args.form c.args.table.pair) (pair_row c.args.form c.args.table.pair images c.args.table.level c.args.table.limit) c.loop-place.place _ _ _ (c.loop-place.invariant images are)
    (row-all c.args.form c.args.table images c.args.counts.now c.loop-place.place c.width_of-columns.result _ _ _ _ c.requires (omega (arith, c.loop-place-test.true, c.width_of-place-end.ensures.width)) are
    c.width_of-columns.ensures.width refl (row-wide c.loop-place.place c.width_of-columns.result) (λ boards each. c.print_row.ensures boards each c.if-not-print_row.false))

pub returns : goal.returns
returns g c = λ images are done.
    table-all c.args.form c.args.table.pair images c.args.table.level c.args.table.limit c.loop-place.place _ _ (omega (arith, c.width_of-place-end.ensures.width)) (c.loop-place.invariant images are)
