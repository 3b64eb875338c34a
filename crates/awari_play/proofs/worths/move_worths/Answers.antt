use Rattle.std.proofs.Common.{refl}
use Rattle.awari_play.proofs.worths.move_worths.Goals as goal

pub returns-clause-legal : goal.returns-clause-legal
returns-clause-legal c = (c.in-Ok.ensures.worths _ refl).legal

pub returns-clause-ascending : goal.returns-clause-ascending
returns-clause-ascending c = (c.in-Ok.ensures.worths _ refl).ascending

pub returns-clause-worth : goal.returns-clause-worth
returns-clause-worth c = (c.in-Ok.ensures.worths _ refl).worth
