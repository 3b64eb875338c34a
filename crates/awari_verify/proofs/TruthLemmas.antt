-- What the verifier's yes means.
use Rattle.std.proofs.Common.{List, [], ◌∷◌, ◌++◌}
use Rattle.awari_table.specs.declared.images.Image.{Image}
use Rattle.awari_table.specs.Shelves.{Consistent, IsShelf}
use Rattle.awari_table.proofs.ShelfLemmas.{IsShelf-push}
use Rattle.awari_theory.specs.Truth.{TellsTruth}
use Rattle.awari_theory.proofs.Truths.{TellsTruth-shelf}

-- a shelf with a consistent level on it tells the truth
pub TellsTruth-verified : (shelf : List Image) (image : Image) → IsShelf shelf → Consistent shelf image → TellsTruth (shelf ++ image ∷ [])
TellsTruth-verified shelf image below consistent = TellsTruth-shelf (shelf ++ image ∷ []) (IsShelf-push shelf image below consistent)
