use Rattle.awari_theory.proofs.Truths.{Comes-shelf}
use Rattle.awari_theory.proofs.shelves.shelves_come_to_their_values.Goals as goal

pub returns : goal.returns
returns c = Comes-shelf
