use Rattle.awari_table.proofs.ShelfLemmas.{IsShelf-take}
use Rattle.awari_table.proofs.laws.fronts_are_shelves.Goals as goal

pub returns : goal.returns
returns c = IsShelf-take
