use Rattle.std.proofs.Common.{vec_len}
use Rattle.awari_crew.proofs.starting.+stay_all.Given as goal

abbrev pub decreases-stay_all : goal.decreases-stay_all
decreases-stay_all g l = vec_len l.members
