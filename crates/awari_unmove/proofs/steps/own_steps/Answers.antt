use Rattle.awari_unmove.proofs.Ends.{steps_at, steps_is}
use Rattle.awari_unmove.proofs.steps.own_steps.Goals as goal

pub returns : goal.returns
unfolding steps_at
returns c = steps_is c.args.held c.requires
