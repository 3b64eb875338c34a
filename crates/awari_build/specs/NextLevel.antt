-- What each build promises of its level.
use Rattle.std.specs.Prelude.{List, [], ◌∷◌, ◌++◌}
use Rattle.awari_play.specs.Least.{IsPlannedLowest}
use Rattle.awari_table.specs.Shelves.{Consistent}
use Rattle.awari_table.specs.declared.images.Image.{Image}
use Rattle.awari_theory.specs.Truth.{TellsTruth}

-- The level is consistent over the shelf, so the shelf with it on top tells the truth. Its plans are the lowest, so there is one
-- level that it may be.
pub record IsNextLevel (shelf : List Image) (level : Image) : Type 0 where
  pub consistent : Consistent shelf level
  pub meaning : TellsTruth (shelf ++ level ∷ [])
  pub planned : IsPlannedLowest shelf level
