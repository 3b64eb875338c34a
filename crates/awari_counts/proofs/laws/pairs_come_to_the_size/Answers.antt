use Rattle.awari_counts.proofs.SizeLaws.{pairs-sum}
use Rattle.awari_counts.proofs.laws.pairs_come_to_the_size.Goals as goal

pub returns : goal.returns
returns c = λ images image level pair shelf found one other. pairs-sum images image level shelf found pair one other
