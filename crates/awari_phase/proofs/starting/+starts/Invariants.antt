use Rattle.std.proofs.Common.{vec_len}
use Rattle.awari_phase.proofs.starting.+starts.Given as goal

abbrev pub decreases-scope : goal.decreases-scope
decreases-scope g l = vec_len l.owners

abbrev pub decreases-work_all : goal.decreases-work_all
decreases-work_all g l = vec_len l.owners
