use Rattle.std.proofs.Common.{◌≤◌, ◌<◌, ◌+◌, arith}
use Rattle.awari_facts.specs.Sources.{images_of}
use Rattle.awari_facts.proofs.RankLaws.{at_listed, listed_below}
use Rattle.awari_rank.specs.Rank.{size_of}
use Rattle.awari_levels.proofs.segments.key_behind.Goals as goal

pub returns-then-place-saturating_sub : goal.returns-then-place-saturating_sub
returns-then-place-saturating_sub c = λ board listed.
    absurd (omega (arith, listed_below c.args.first.now.level _ board listed, c.if-place-saturating_sub.true, c.saturating_sub.ensures, c.size.ensures.boards))

pub returns : goal.returns
returns c = λ board listed.
    let low : c.args.first.now.level ≤ 24 = omega (arith, c.requires, c.levels_in-levels.ensures.formed.few) in
    let inside : c.args.first.now.rank + c.args.place < size_of c.args.first.now.level = omega (arith, c.if-place-saturating_sub.false, c.saturating_sub.ensures, c.size.ensures.boards) in
    c.key_on.ensures board (at_listed (images_of c.args.levels) c.args.first.now.level _ board c.entry_on-entry.result c.entry_on-entry.ensures low inside listed)
