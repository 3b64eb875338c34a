use Rattle.awari_theory.proofs.Truths.{TellsTruth-shelf}
use Rattle.awari_theory.proofs.shelves.shelves_tell_the_truth.Goals as goal

pub returns : goal.returns
returns c = TellsTruth-shelf
