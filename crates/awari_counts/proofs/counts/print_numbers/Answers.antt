use Rattle.std.proofs.Common.{◌+◌, ◌==◌, subst, sym}
use Rattle.std.specs.Ordering.{int_eq}
use Rattle.awari_counts.proofs.CountLaws.{counted-all, row-counted, told_is}
use Rattle.awari_counts.specs.Ranges.{number_at}
use Rattle.awari_counts.specs.Tallies.{AreByDistance, AreByValue}
use Rattle.awari_queries.specs.declared.columns.Column.TheVariants.{Value, Distance}
use Rattle.awari_counts.proofs.counts.print_numbers.Goals as goal

pub returns : goal.returns
returns g c = λ image are done.
    let values = subst (AreByValue image.entries) (sym c.as_slice.ensures.value) are.tally.values in
    let distances = subst (AreByDistance image.limit image.entries) (sym c.as_slice-2.ensures.value) are.tally.distances in
    counted-all _ image c.args.numbers.now.told _ _ _ _ (told_is image c.args.numbers.now.told are.told) (c.print_top.ensures c.if-not-print_top.false)
    (row-counted _ Value (λ k e. int_eq e.value (number_at Value k)) 256 image.entries _ _ _ values (λ boards each. c.print_row.ensures boards each c.if-not-print_row.false))
    (row-counted _ Distance (λ k e. e.dist == k) (image.limit + 1) image.entries _ _ _ distances (λ boards each. c.print_row-2.ensures boards each done))
