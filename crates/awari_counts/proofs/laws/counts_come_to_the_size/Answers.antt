use Rattle.awari_counts.proofs.SizeLaws.{distances-sum, shares-sum, values-sum}
use Rattle.awari_counts.proofs.laws.counts_come_to_the_size.Goals as goal

pub returns : goal.returns
returns c = record { values = values-sum; distances = distances-sum; shares = shares-sum }
