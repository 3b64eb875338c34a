use Rattle.std.proofs.Common.{rules}
use Rattle.awari_block.proofs.PitSets.{lowest_is, lowest_none}
use Rattle.awari_block.proofs.pits.Pits.lowest.Goals as goal

pub returns-then-lowest-lt6 : goal.returns-then-lowest-lt6
returns-then-lowest-lt6 c = rw (← c.self.view_is) (lowest_is c.self.inside.bits (search rules) c.if-lowest-lt6.true)

pub returns-else-lowest-lt6 : goal.returns-else-lowest-lt6
returns-else-lowest-lt6 c = rw (← c.self.view_is) (lowest_none c.self.inside.bits (search rules) c.if-lowest-lt6.false)
