-- Where the entries of a level are read, and what is said of a level that no one verified.
use Rattle.std.specs.Prelude.{◌≡◌, ℕ, ◌+◌, ◌<◌, ◌≤◌, List, length, min, Option, Some, slice_index_or}
use Rattle.awari_folder.specs.Contents.{AreNames, Stands}
use Rattle.awari_folder.specs.declared.faults.FolderFault.{FolderFault}
use Rattle.awari_places.specs.Faults.{IsFaultFrom, IsLimitFault, IsRefusedAt}
use Rattle.awari_places.specs.Opening.{AreFramed}
use Rattle.awari_places.specs.Places.{AreFormed, Says}
use Rattle.awari_places.specs.declared.opening.Opened.{Opened}
use Rattle.awari_rank.specs.Rank.{size_of}
use Rattle.awari_table.specs.Images.{no_image}
use Rattle.awari_table.specs.declared.TheConstants.{HIGHEST_LEVEL}
use Rattle.awari_table.specs.declared.images.Image.{Image}
use Rattle.awari_facts.specs.declared.sources.Levels.{Levels}
use Rattle.awari_facts.specs.declared.sources.Levels.TheVariants.{Right, Said}
use Rattle.awari_facts.specs.declared.sources.Source.{Source}
use Rattle.awari_facts.specs.declared.sources.Source.TheVariants.{Memory, Files}

-- levels in memory
abbrev pub images_of : Levels → List Image
images_of (Right shelf) = shelf.now
images_of (Said said) = said.now

-- how many levels a source has
abbrev pub levels_of : Source → ℕ
levels_of (Memory levels) = length (images_of levels)
levels_of (Files levels) = levels

-- these are the levels in memory, or what the files say
abbrev pub SaysBy : Source → Stands → List Image → Type 0
SaysBy (Memory levels) stands images = (images ≡ images_of levels) × AreFormed images
SaysBy (Files levels) stands images = Says stands levels images

-- Why the entry of a rank of a level is not read, by what has the name of the level's file: that of some rank from this one on is
-- refused so. Levels in memory refuse none.
abbrev pub IsUnreadFrom : Source → ℕ → ℕ → Option (Option (List ℕ)) → FolderFault → Type 0
IsUnreadFrom (Memory levels) level rank known fault = ⊥
IsUnreadFrom (Files levels) level rank known fault = IsFaultFrom level rank known fault

-- Why the entry of a board is not read, likewise.
abbrev pub IsUnreadAt : Source → Stands → List ℕ → FolderFault → Type 0
IsUnreadAt (Memory levels) stands board fault = ⊥
IsUnreadAt (Files levels) stands board fault = IsRefusedAt stands board fault

-- Why the limit of a level is not read, where it is known what has the name of the level's file. Levels in memory refuse none.
abbrev pub IsLimitUnread : Source → ℕ → Option (Option (List ℕ)) → FolderFault → Type 0
IsLimitUnread (Memory levels) level known fault = ⊥
IsLimitUnread (Files levels) level known fault = (name : Option (List ℕ)) → known ≡ Some name → IsLimitFault level name fault

-- the limit of the level of this number
abbrev pub limit_of : List Image → ℕ → ℕ
limit_of images level = (slice_index_or images level no_image).limit

-- These files are opened by their headers, up to this level's, where it is known what has the names; and this holds of what they
-- say. If they are right, that is their shelf.
pub record AreSaid (most : ℕ) (stands : Stands) (P : List Image → Type 0) : Type 0 where
  pub opened : Opened
  pub framed : (names : ℕ → Option (List ℕ)) → AreNames stands names → AreFramed (min most HIGHEST_LEVEL) names opened
  pub said : (images : List Image) → Says stands opened.levels images → P images

-- the same, and this level's file is among them
pub record IsSaidOf (level : ℕ) (stands : Stands) (P : List Image → Type 0) : Type 0 where
  pub opened : Opened
  pub framed : (names : ℕ → Option (List ℕ)) → AreNames stands names → AreFramed (min level HIGHEST_LEVEL) names opened
  pub known : level < opened.levels
  pub said : (images : List Image) → Says stands opened.levels images → P images

-- of these levels this one is there, and has a board of this rank
pub record IsThere (levels level rank : ℕ) : Type 0 where
  pub known : level < levels
  pub few : levels ≤ HIGHEST_LEVEL + 1
  pub ranked : rank < size_of level
