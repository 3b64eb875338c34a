-- A folder that stays as it is has the same levels that are wished.
use Rattle.std.proofs.Common.{◌≡◌, ℕ, List, Option, Some, None, subst}
use Rattle.std.specs.Prelude.{IfSome}
use Rattle.awari_table.specs.declared.images.Image.{Image}
use Rattle.awari_folder.specs.Contents.{Same, Stands}
use Rattle.awari_levels.specs.Wishes.{AreWished}

pub wished_before : (levels : Option ℕ) (old new : Stands) (images : List Image) → Same old new → AreWished levels new images → AreWished levels old images
wished_before None old new images same are = tt
wished_before (Some top) old new images same are = (are.0, λ n above low. subst (λ name. IfSome name (λ file. file ≡ None)) (same n) (are.1 n above low))
