use Rattle.std.proofs.Common.{◌≡◌, true}
use Rattle.awari_levels.proofs.ListingLaws.{wanted-count, wanted-lines}
use Rattle.awari_levels.proofs.boards.print_wanted.Goals as goal

pub returns-then-not-asked-clause-printed : goal.returns-then-not-asked-clause-printed
returns-then-not-asked-clause-printed g c = λ images says done. wanted-lines images c.args.asked.level c.args.asked.wanted.now _ _ c.if-not-asked.true (c.print_boards.ensures.printed images says done)

pub returns-clause-printed : goal.returns-clause-printed
returns-clause-printed g c = λ images says done.
    let written : c.print.result ≡ true = cc in
    wanted-count images c.args.asked.level c.args.asked.wanted.now c.in_ok-count.count _ _ c.if-not-asked.false (c.in_ok-count.ensures.counted images says) (c.print.ensures written)
