use Rattle.std.proofs.Common.{rules}
use Rattle.awari_core.proofs.cores.Core.next_gain.Goals as goal

pub open_next_gain-requires : goal.open_next_gain-requires
open_next_gain-requires c = c.quiet.ensures.quiet.0 (search rules)

pub returns-clause-quiet : goal.returns-clause-quiet
returns-clause-quiet c = c.quiet.ensures.quiet.0 (search rules)
