use Rattle.std.proofs.Common.{arith}
use Rattle.awari_counts.proofs.LaneLaws.{columns-lanes, few_as, rows-lanes, table-long}
use Rattle.awari_counts.proofs.sums.tally_of.Goals as goal

pub sums_of-requires : goal.sums_of-requires
sums_of-requires c =
    let long = table-long c.args.counts.now c.args.limit c.width_of-rows.result c.width_of-columns.result c.requires.long c.width_of-rows.ensures.width c.width_of-columns.ensures.width in
    rows-lanes c.args.counts.now c.width_of-rows.result c.width_of-columns.result long (omega (arith, c.width_of-columns.ensures.width)) c.requires.few

pub sums_of-requires-2 : goal.sums_of-requires-2
sums_of-requires-2 c =
    let long = table-long c.args.counts.now c.args.limit c.width_of-rows.result c.width_of-columns.result c.requires.long c.width_of-rows.ensures.width c.width_of-columns.ensures.width in
    columns-lanes c.args.counts.now c.width_of-rows.result c.width_of-columns.result long (omega (arith, c.width_of-rows.ensures.width)) c.requires.few

pub shares_of-requires-clause-few : goal.shares_of-requires-clause-few
shares_of-requires-clause-few c =
    let long = table-long c.args.counts.now c.args.limit c.width_of-rows.result c.width_of-columns.result c.requires.long c.width_of-rows.ensures.width c.width_of-columns.ensures.width in
    few_as c.args.counts.now c.in_ok-values.values.items c.as_slice.result.now c.width_of-rows.result c.width_of-columns.result long c.in_ok-values.ensures.sums c.as_slice.ensures.value c.requires.few
