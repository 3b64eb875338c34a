-- The levels in a folder, up to one that is there.
use Rattle.std.specs.Prelude.{◌≡◌, ℕ, ◌<◌, ◌≤◌, List, length, min}
use Rattle.awari_folder.specs.Contents.{Stands}
use Rattle.awari_answers.specs.Asked.{AreLevelsTo}
use Rattle.awari_answers.specs.declared.asked.NoAnswer.{NoAnswer}
use Rattle.awari_answers.specs.declared.asked.NoAnswer.TheVariants.{Folder, NotYet}
use Rattle.awari_folder.specs.declared.faults.FolderFault.{FolderFault}
use Rattle.awari_table.specs.declared.TheConstants.{HIGHEST_LEVEL}
use Rattle.awari_table.specs.declared.images.Image.{Image}

-- right levels: those up to this one that the folder stores, where it is known what its names have; and this one is among them
pub record HasLevel (level : ℕ) (stands : Stands) (images : List Image) : Type 0 where
  pub levels : AreLevelsTo (min level HIGHEST_LEVEL) stands images
  pub known : level < length images

-- how many right levels the folder stores up to this one
abbrev pub CountsLoaded : ℕ → Stands → ℕ → Type 0
CountsLoaded level stands n = (images : List Image) × AreLevelsTo (min level HIGHEST_LEVEL) stands images × (n ≡ length images)

-- the folder is refused, with a fault that is due
abbrev pub IsNoFolder : (FolderFault → Type 0) → NoAnswer → Type 0
IsNoFolder IsDue (Folder fault) = IsDue fault
IsNoFolder IsDue fault = ⊥

-- The folder is refused, with a fault that is due. Or this level is not there, and the refusal tells how many are.
abbrev pub IsNoLevel : (FolderFault → Type 0) → (ℕ → Type 0) → ℕ → NoAnswer → Type 0
IsNoLevel IsDue Counts level (Folder fault) = IsDue fault
IsNoLevel IsDue Counts level (NotYet fault) = (fault.levels ≤ level) × Counts fault.levels
IsNoLevel IsDue Counts level fault = ⊥
