use Rattle.awari_play.proofs.Alike.{lowest_push}
use Rattle.awari_play.proofs.laws.lowest_plans_stay.Goals as goal

pub returns : goal.returns
returns c = lowest_push
