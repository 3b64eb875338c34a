use Rattle.std.proofs.Common.{◌≡◌, ◌<◌, length, subst, true, arith}
use Rattle.awari_counts.proofs.CellLaws.{cell-found, no-cell, tabled-found}
use Rattle.awari_counts.specs.Tables.{CountsSegment}
use Rattle.awari_counts.proofs.cells.count_found.Goals as goal

pub loop-place-preserved : goal.loop-place-preserved
loop-place-preserved c =
    let i = c.loop-place.invariant in
    let read = c.requires.inside c.loop-place.place c.in-Some.cell c.loop-place-test.true c.in-Some.is in
    let inside : c.in-Some.cell < length c.loop-place.counts.items = omega (arith, read, i.long, c.loop-place.counts.ok.0) in
    record {
      long = omega (arith, i.long, c.count_cell.ensures.long);
      few = omega (arith, i.few, c.count_cell.ensures.all);
      counted = λ images start are before.
          tabled-found images start.table start.first c.loop-place.place c.loop-place.counts.items c.count_cell.new.counts.items c.in-Some.cell (i.counted images start are before)
          (cell-found images start.table _ c.in-Some.cell _ (are.each c.loop-place.place c.loop-place-test.true) c.in-Some.is) inside c.count_cell.ensures.more;
    }

pub returns-in_default-clause-counted : goal.returns-in_default-clause-counted
returns-in_default-clause-counted c = λ images start are. no-cell images start.table _ _ (are.each c.loop-place.place c.loop-place-test.true) c.in_default.is

pub returns-clause-counted : goal.returns-clause-counted
returns-clause-counted c = λ images start are.
    let whole : c.loop-place.place ≡ length c.args.found.now = omega arith in
    subst (λ n. CountsSegment true images start n c.args.counts.now.items c.loop-place.counts.items) whole (c.loop-place.invariant.counted images start are)
