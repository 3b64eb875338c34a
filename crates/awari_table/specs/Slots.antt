-- What lies in the slots of a shelf.
use Rattle.std.specs.Prelude.{List, map, Option, Some, None, IsSome, All}
use Rattle.std.specs.Arc.{arc_value}
use Rattle.std.specs.declared.sync.Arc.{Arc}
use Rattle.awari_table.specs.declared.images.Image.{Image}
use Rattle.awari_table.specs.Images.{no_image}
use Rattle.awari_table.specs.Shelves.{IsShelf}

module _ {Z : Type 0} where
  abbrev pub image_in : Option (Arc Image Z) → Image
  image_in None = no_image
  image_in (Some level) = arc_value level

  -- each slot holds a level, and the levels are a shelf
  pub record HoldsShelf (slots : List (Option (Arc Image Z))) : Type 0 where
    pub full : All (λ o. IsSome o) slots
    pub shelf : IsShelf (map image_in slots)
