use Rattle.std.proofs.Common.{ap, rules}
use Rattle.awari_words.specs.Commands.{shape_of_row}
use Rattle.awari_words.proofs.MadeCommands.{next_row}
use Rattle.awari_words.proofs.making.with_rows.Goals as goal

pub loop-row-preserved : goal.loop-row-preserved
loop-row-preserved c =
    let made = c.in_ok-command.ensures in
    let added = c.in_ok-awari.ensures.shape made.1 in
    let so_far = c.loop-row.invariant in
    (next_row (shape_of_row (λ t. t.now) (λ w. w.now)) _ c.args.rows.now c.loop-row.row-index _ _ _ _ (search rules) so_far.0 (ap (λ app. app.top) made.0) added, search rules)
