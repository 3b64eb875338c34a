-- The command `build`: what is printed of the levels that were built.
use Rattle.std.specs.Prelude.{◌≡◌, ◌<◌, ◌≤◌, ◌⊎◌, ◌+◌, ℕ, List, [], ◌∷◌, ◌++◌, length, Option, None, Some}
use Rattle.std.specs.Io.KnownBytes.{Appends}
use Rattle.awari_answers.specs.LevelLines.{level_line, level_lines}
use Rattle.awari_play.specs.Least.{HasLowestPlans}
use Rattle.awari_table.specs.Shelves.{Consistent, IsShelf}
use Rattle.awari_table.specs.declared.images.Image.{Image}
use Rattle.awari_folder.specs.Contents.{AreNames, HoldsIn, IsStored, LeavesNoMore, Same, SameBut, KeepsFiles, Stands}
use Rattle.awari_migrate.specs.Migration.{IsWholeFile}
use Rattle.awari_folder.specs.State.{State}

-- The shelf is longer by levels that were built, up to `top` at least, and their lines were written. Plans stay the lowest.
pub record BuildsTo (top : ℕ) (old new : List Image) (before after : Option (List ℕ)) : Type 0 where
  pub shelf : IsShelf new
  pub high : top < length new
  pub built : (built : List Image) × (new ≡ old ++ built) × Appends before after (level_lines built)
  pub planned : HasLowestPlans old → HasLowestPlans new

-- Where it is known what a folder's names have: the levels below were stored in it, and now it holds those and the ones that
-- were built on them.
abbrev pub IsBuiltIn : Stands → Stands → List Image → List Image → Type 0
IsBuiltIn old new below built = (names : ℕ → Option (List ℕ)) → AreNames old names
    → (under digest : List ℕ) × IsStored names below under × HoldsIn new (below ++ built) digest

-- Where it is known what the writer holds, what was written are the lines of right levels, over those that were stored in the
-- folder, up to level `top` at least. The plans of all of them are the lowest, where those that were stored are.
abbrev pub PrintsLevels : ℕ → Stands → Stands → Option (List ℕ) → Option (List ℕ) → Type 0
PrintsLevels top old new before after = (below built : List Image) × IsShelf (below ++ built) × (top < length (below ++ built)) × IsBuiltIn old new below built
    × (HasLowestPlans below → HasLowestPlans (below ++ built)) × Appends before after (level_lines built)

-- Where it is known what the writer holds, what was written are the lines of levels 0 to `top`, which are right and have the lowest
-- plans. There is one list of such levels, so it is one text.
abbrev pub PrintsAllLevels : ℕ → Option (List ℕ) → Option (List ℕ) → Type 0
PrintsAllLevels top before after = (built : List Image) × IsShelf built × (length built ≡ top + 1) × HasLowestPlans built × Appends before after (level_lines built)

-- each of the levels below `low` and above `top` has what it had
abbrev pub SameOutside : ℕ → ℕ → Stands → Stands → Type 0
SameOutside low top old new = (n : ℕ) → (n < low) ⊎ (top < n) → new n ≡ old n

-- A crash may leave nothing else than before, but a whole file under the names from level `low` on that had none.
abbrev pub LeavesFiles : ℕ → (ℕ → Option (List ℕ)) → (ℕ → Option (List ℕ) → Type 0) → (ℕ → Option (List ℕ) → Type 0) → Type 0
LeavesFiles low names old new = (n : ℕ) (left : Option (List ℕ)) → new n left → old n left ⊎ ((low ≤ n) × (names n ≡ None) × IsWholeFile left)

-- A level's name alone may have changed: a file that had it stays, and a crash leaves a whole file under it if it had none.
pub record AddsFile (level : ℕ) (old new : State) : Type 0 where
  pub others : SameBut level old.stands new.stands
  pub kept : KeepsFiles old.stands new.stands
  pub crash : (names : ℕ → Option (List ℕ)) → old.stands level ≡ Some (names level) → LeavesFiles level names old.may_leave new.may_leave

-- A level was saved over the file that ends in `below`, and its own ends in `own`. Then its line was printed.
pub record SavesLevel (image : Image) (below own : List ℕ) (old new : State) (before after : Option (List ℕ)) : Type 0 where
  pub holds : (under : List Image) → HoldsIn old.stands under below → Consistent under image → HoldsIn new.stands (under ++ image ∷ []) own
  pub told : Appends before after (level_line image ++ 10 ∷ [])

-- the same of the level on top of a shelf
pub record SavesTop (shelf : List Image) (below own : List ℕ) (old new : State) (before after : Option (List ℕ)) : Type 0 where
  pub holds : (under : List Image) (image : Image) → shelf ≡ under ++ image ∷ [] → HoldsIn old.stands under below → HoldsIn new.stands shelf own
  pub told : (under : List Image) (image : Image) → shelf ≡ under ++ image ∷ [] → Appends before after (level_line image ++ 10 ∷ [])

-- Nothing is changed, or levels were stored and each of their files stays, as does what has the names above `top`; and a crash
-- leaves what it might have left before, or a whole file under a name above those levels that had none.
abbrev pub KeepsLevels : ℕ → (ℕ → Option (List ℕ)) → Stands → Stands
    → (ℕ → Option (List ℕ) → Type 0) → (ℕ → Option (List ℕ) → Type 0) → Type 0
KeepsLevels top names old new left leaves = (Same old new × LeavesNoMore left leaves)
    ⊎ ((below : List Image) × (under : List ℕ) × IsStored names below under × SameOutside (length below) top old new × LeavesFiles (length below) names left leaves)
