-- The files of a folder as a table that is asked board by board.
use Rattle.std.specs.Prelude.{◌≡◌}
use Rattle.awari_folder.specs.Contents.{Stands}
use Rattle.awari_folder.specs.State.{State, Unchanged}
use Rattle.awari_folder.specs.declared.faults.FolderFault.{FolderFault}
use Rattle.awari_play.specs.Saying.{Saying}
use Rattle.awari_places.specs.Faults.{IsJudgeFault, IsRefusedAt}
use Rattle.awari_places.specs.Places.{Says}
use Rattle.awari_places.specs.declared.files.Files.{Files}

-- what the names have in the folder
abbrev pub stands_in : {F : Type 0} → (F → State) → Files F → Stands
stands_in state files = (state files.folder.now).stands

-- the folder is lent still, and is unchanged; the levels stay
pub record Keeps {F : Type 0} (state : F → State) (old new : Files F) : Type 0 where
  pub lent : new.folder.ghost_name ≡ old.folder.ghost_name
  pub same : Unchanged (state old.folder.now) (state new.folder.now)
  pub levels : new.levels ≡ old.levels

-- They say what their bytes say, and refuse a board for what has the name of its level.
abbrev pub by_files : {F : Type 0} → (F → State) → Saying (Files F) FolderFault
by_files state = record {
  levels = λ files. files.levels;
  says = λ files images. Says (stands_in state files) files.levels images;
  keeps = Keeps state;
  refuses = λ files board fault. IsRefusedAt (stands_in state files) board fault;
}

-- how they refuse boards that are judged
abbrev pub misjudged_by : {F : Type 0} → (F → State) → Files F → FolderFault → Type 0
misjudged_by state files fault = IsJudgeFault files.levels (stands_in state files) fault
