use Rattle.awari_rank.proofs.Order.{same_equal}
use Rattle.awari_rank.proofs.laws.same_lists_are_equal.Goals as goal

pub returns : goal.returns
returns c = same_equal
