use Rattle.awari_desk.proofs.Longer.{answered_grow, served_grow}
use Rattle.awari_desk.proofs.laws.services_only_grow.Goals as goal

pub returns-clause-requests : goal.returns-clause-requests
returns-clause-requests c = answered_grow

pub returns-clause-served : goal.returns-clause-served
returns-clause-served c = served_grow
