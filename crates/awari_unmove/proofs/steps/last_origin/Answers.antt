use Rattle.awari_unmove.proofs.Ends.{origin_at, origin_is}
use Rattle.awari_unmove.proofs.steps.last_origin.Goals as goal

pub returns : goal.returns
unfolding origin_at
returns c = origin_is c.args.held c.requires
