-- What members begin with and bring home.
use Rattle.std.specs.Prelude.{◌≡◌, ℕ, ◌^◌, List, [], ◌∷◌, length, map, ℤ}
use Rattle.awari_block.specs.Notes.{Has}
use Rattle.awari_block.specs.Part.{Part}
use Rattle.awari_lines.specs.Rings.{IsGrid, IsUnused, SamePairs}
use Rattle.awari_lines.specs.declared.ends.Ends.{Ends}
use Rattle.awari_table.specs.Images.{table_of}
use Rattle.awari_table.specs.declared.images.Image.{Image}
use Rattle.awari_crew.specs.Members.{IsSound}
use Rattle.awari_crew.specs.declared.homes.Home.{Home}
use Rattle.awari_crew.specs.declared.letters.Letter.{Letter}
use Rattle.awari_crew.specs.declared.members.Member.{Member}

abbrev pub ends_of : Home → Ends Letter
ends_of home = home.ends

abbrev pub brought : Home → List Part
brought home = home.segments.items

abbrev pub ends_from : Member → Ends Letter
ends_from m = m.ends

-- a member of the level above this shelf, over whose rings nothing went
pub record IsTasked (shelf : List Image) (log : ℕ) (m : Member) : Type 0 where
  pub shelf_is : m.shelf ≡ shelf
  pub level : m.level ≡ length shelf
  pub log_is : m.log ≡ log
  pub unused : IsUnused m.ends

-- and all of them, on one grid
pub record AreCrew (shelf : List Image) (log : ℕ) (members : List Member) : Type 0 where
  pub grid : IsGrid (map ends_from members)
  pub each : (m : Member) → Has members m → IsTasked shelf log m

-- the member came home on its rings, and is sound if nothing had gone over them
pub record ComesHome (m : Member) (home : Home) : Type 0 where
  pub pairs : SamePairs m.ends home.ends
  pub sound : IsUnused m.ends → IsSound (table_of m.shelf).value m.level (2 ^ m.log) home.ends (brought home)

-- and so did each
abbrev pub AllComeHome : List Member → List Home → Type 0
AllComeHome [] [] = Unit {0}
AllComeHome [] (h ∷ homes) = ⊥
AllComeHome (m ∷ members) [] = ⊥
AllComeHome (m ∷ members) (h ∷ homes) = ComesHome m h × AllComeHome members homes

-- All members are home, on one grid, and each is sound.
pub record AreHome (value : List ℕ → ℤ) (level span : ℕ) (homes : List Home) : Type 0 where
  pub grid : IsGrid (map ends_of homes)
  pub sound : (h : Home) → Has homes h → IsSound value level span h.ends (brought h)
