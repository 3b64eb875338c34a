-- Levels that are saved one after the other, each while the next one is built.
use Rattle.std.proofs.Common.{arith, ◌≡◌, ◌<◌, ◌≤◌, ◌+◌, ◌-◌, inl, ⊎_elim, List, ℕ, [], ◌∷◌, ◌++◌, length, get_or, take, slice_get, Option, Some, refl, subst, sym, length-append, ap, ◌∙◌}
use Rattle.std.proofs.lemmas.List.{length-take-le}
use Rattle.std.proofs.lemmas.Option.{get_or_from_slice_get}
use Rattle.std.proofs.Math.Seq.{take-append_seam, get_or-append_seam}
use Rattle.std.specs.Io.KnownBytes.{Appends}
use Rattle.sha2.specs.Sha256.{sha256}
use Rattle.awari_answers.specs.LevelLines.{IsToldOf, level_line, told_text}
use Rattle.awari_answers.specs.declared.telling.LevelLine.{LevelLine}
use Rattle.awari_answers.proofs.LevelLineLaws.{told_is}
use Rattle.awari_file.specs.FileText.{body_text}
use Rattle.awari_folder.specs.Contents.{AreNames, HoldsIn, KeepsFiles}
use Rattle.awari_folder.specs.State.{IsOwnIfFree, Leaves, Saves, State}
use Rattle.awari_play.specs.Least.{HasLowestPlans}
use Rattle.awari_table.specs.Images.{no_image}
use Rattle.awari_table.specs.Shelves.{Consistent, IsShelf}
use Rattle.awari_table.specs.declared.images.Image.{Image}
use Rattle.awari_table.proofs.ShelfLemmas.{Consistent-level}
use Rattle.awari_builds.specs.Building.{AddsFile, LeavesFiles, SameOutside, SavesLevel, SavesTop}
use Rattle.awari_builds.proofs.BuildLaws.{IsBuilt, built_line, built_none}
use Rattle.awari_builds.proofs.FolderBuilds.{files_at, more_files}

-- ---- one level

-- what a save leaves, whatever it answers
pub adds_one : (image : Image) (below : List ℕ) (old new : State) → Leaves image.level (IsOwnIfFree image below) old new → KeepsFiles old.stands new.stands → AddsFile image.level old new
adds_one image below old new leaves kept = record {
  others = leaves.others;
  kept = kept;
  crash = λ names. files_at old.stands names image.level image.level image below old.may_leave new.may_leave refl leaves.crash;
}

pub saves_one : (image : Image) (told : LevelLine) (below own : List ℕ) (old new : State) (before after : Option (List ℕ)) → own ≡ sha256 (body_text 2 image below) → Saves image below old new
    → IsToldOf image told → Appends before after (told_text told ++ 10 ∷ []) → SavesLevel image below own old new before after
saves_one image told below own old new before after ends saves tells written = record {
  holds = λ under held right. subst (λ digest. HoldsIn new.stands (under ++ image ∷ []) digest) (sym ends) (saves.next under held right);
  told = subst (λ t. Appends before after (t ++ 10 ∷ [])) (told_is image told tells) written;
}

-- ---- the level on top of a shelf

-- the shelf has a level, and this is the one on top
pub record IsOnTop (shelf : List Image) (top : Image) : Type 0 where
  pub right : IsShelf shelf
  pub some : 0 < length shelf
  pub found : slice_get shelf (length shelf - 1) ≡ Some top

pub on_top : (shelf : List Image) (top level : Image) (levels : ℕ) → 0 < length shelf → levels ≡ length shelf → IsShelf shelf → slice_get shelf (levels - 1) ≡ Some level → top ≡ level
    → IsOnTop shelf top
on_top shelf top level levels some size right read same = record {
  right = right;
  some = some;
  found = ap (λ k. slice_get shelf (k - 1)) (sym size) ∙ read ∙ ap Some (sym same);
}

place_of : (shelf under : List Image) (image : Image) → shelf ≡ under ++ image ∷ [] → length shelf - 1 ≡ length under
place_of shelf under image put = omega (arith, ap length put, length-append under (image ∷ []))

top_is : (shelf under : List Image) (image top : Image) → shelf ≡ under ++ image ∷ [] → IsOnTop shelf top → top ≡ image
top_is shelf under image top put is =
    sym (get_or_from_slice_get shelf (length shelf - 1) top no_image is.found) ∙ ap (λ k. get_or shelf k no_image) (place_of shelf under image put)
    ∙ ap (λ xs. get_or xs (length under) no_image) put ∙ get_or-append_seam under image [] no_image

under_is : (shelf under : List Image) (image : Image) → shelf ≡ under ++ image ∷ [] → under ≡ take (length shelf - 1) shelf
under_is shelf under image put =
    sym (ap (λ k. take k shelf) (place_of shelf under image put) ∙ ap (λ xs. take (length under) xs) put ∙ take-append_seam under (image ∷ []))

pub saves_top : (shelf : List Image) (top : Image) (below own : List ℕ) (old new : State) (before after : Option (List ℕ)) → IsOnTop shelf top
    → SavesLevel top below own old new before after → SavesTop shelf below own old new before after
saves_top shelf top below own old new before after is saves = record {
  holds = λ under image put held.
      let same : top ≡ image = top_is shelf under image top put is in
      let right : Consistent under top = Consistent-level shelf under (length shelf - 1) top is.right is.found (under_is shelf under image put) in
      subst (λ xs. HoldsIn new.stands xs own) (sym put) (subst (λ i. HoldsIn new.stands (under ++ i ∷ []) own) same (saves.holds under held right));
  told = λ under image put. subst (λ i. Appends before after (level_line i ++ 10 ∷ [])) (top_is shelf under image top put is) saves.told;
}

level_of_top : (shelf : List Image) (top : Image) → IsOnTop shelf top → top.level ≡ length shelf - 1
level_of_top shelf top is =
    let right : Consistent (take (length shelf - 1) shelf) top = Consistent-level shelf (take (length shelf - 1) shelf) (length shelf - 1) top is.right is.found refl in
    let next : top.level ≡ length (take (length shelf - 1) shelf) = right.next in
    next ∙ length-take-le (length shelf - 1) shelf (omega arith)

pub adds_top : (shelf : List Image) (top : Image) (old new : State) → IsOnTop shelf top → AddsFile top.level old new → AddsFile (length shelf - 1) old new
adds_top shelf top old new is adds = subst (λ k. AddsFile k old new) (level_of_top shelf top is) adds

-- ---- several levels

-- The names from level `low` on, below `high`, alone may have changed: a file that had one stays, and a crash leaves a whole file
-- under one that had none.
pub record AddsFiles (low high : ℕ) (old new : State) : Type 0 where
  pub below : (n : ℕ) → n < low → new.stands n ≡ old.stands n
  pub above : (n : ℕ) → high ≤ n → new.stands n ≡ old.stands n
  pub kept : KeepsFiles old.stands new.stands
  pub crash : (names : ℕ → Option (List ℕ)) → AreNames old.stands names → LeavesFiles low names old.may_leave new.may_leave

pub adds_none : (low high : ℕ) (state : State) → AddsFiles low high state state
adds_none low high state = record { below = λ n less. refl; above = λ n more. refl; kept = λ n bytes is. is; crash = λ names are n left may. inl may }

pub adds_more : (low k : ℕ) (old now new : State) → low ≤ k → AddsFiles low k old now → AddsFile k now new → AddsFiles low (k + 1) old new
adds_more low k old now new within before here = record {
  below = λ n less. here.others n (λ same. omega (arith, less, within, same)) ∙ before.below n less;
  above = λ n more. here.others n (λ same. omega (arith, more, same)) ∙ before.above n (omega (arith, more));
  kept = λ n bytes is. here.kept n bytes (before.kept n bytes is);
  crash = λ names are. more_files low k names old.may_leave now.may_leave new.may_leave within (before.crash names are) (here.crash names (before.above k (omega arith) ∙ are k));
}

pub same_outside : (low high top : ℕ) (old new : State) → high ≤ top + 1 → AddsFiles low high old new → SameOutside low top old.stands new.stands
same_outside low high top old new few adds n away = ⊎_elim (λ less. adds.below n less) (λ more. adds.above n (omega (arith, few, more))) away

-- How far a build in a folder is that began with the levels `first`: all levels of the shelf but the last are saved, and told.
pub record IsUnderWay (top : ℕ) (first shelf : List Image) (under digest : List ℕ) (old now : State) (before after : Option (List ℕ)) : Type 0 where
  pub saved : List Image
  pub last : Image
  pub put : shelf ≡ saved ++ last ∷ []
  pub built : IsBuilt first saved before after
  pub planned : HasLowestPlans first → HasLowestPlans shelf
  pub holds : HoldsIn old.stands first under → HoldsIn now.stands saved digest
  pub longer : length first + 1 ≤ length shelf
  pub few : length shelf ≤ top + 1
  pub adds : AddsFiles (length first) (length shelf - 1) old now

size_of_next : (shelf under : List Image) (image : Image) → shelf ≡ under ++ image ∷ [] → length shelf ≡ length under + 1
size_of_next shelf under image put = ap length put ∙ length-append under (image ∷ [])

pub begins : (top : ℕ) (first shelf : List Image) (image : Image) (under : List ℕ) (state : State) (contents : Option (List ℕ)) → length first ≤ top → shelf ≡ first ++ image ∷ []
    → (HasLowestPlans first → HasLowestPlans shelf) → IsUnderWay top first shelf under under state state contents contents
begins top first shelf image under state contents low put planned =
    let size = size_of_next shelf first image put in
    record {
      saved = first;
      last = image;
      put = put;
      built = built_none first contents;
      planned = planned;
      holds = λ held. held;
      longer = omega (arith, size);
      few = omega (arith, size, low);
      adds = adds_none (length first) (length shelf - 1) state;
    }

-- what a build leaves that saves the level on top, whatever the save answers
pub leaves_files : (top : ℕ) (first shelf : List Image) (under digest : List ℕ) (old now new : State) (before after : Option (List ℕ)) → IsUnderWay top first shelf under digest old now before after
    → AddsFile (length shelf - 1) now new → AddsFiles (length first) (length shelf) old new
leaves_files top first shelf under digest old now new before after is here =
    let size : length shelf - 1 + 1 ≡ length shelf = omega (arith, is.longer) in
    let within : length first ≤ length shelf - 1 = omega (arith, is.longer) in
    subst (λ k. AddsFiles (length first) k old new) size (adds_more (length first) (length shelf - 1) old now new within is.adds here)

-- The level on top is saved, and the next one is on the shelf.
pub goes_on : (top : ℕ) (first shelf next : List Image) (image : Image) (under digest own : List ℕ) (old now new : State) (before middle after : Option (List ℕ))
    → IsUnderWay top first shelf under digest old now before middle → length shelf ≤ top → SavesTop shelf digest own now new middle after → next ≡ shelf ++ image ∷ []
    → (HasLowestPlans shelf → HasLowestPlans next) → AddsFile (length shelf - 1) now new → IsUnderWay top first next under own old new before after
goes_on top first shelf next image under digest own old now new before middle after is low saves put planned here =
    let size = size_of_next next shelf image put in
    let place : length shelf ≡ length next - 1 = omega (arith, size) in
    record {
      saved = shelf;
      last = image;
      put = put;
      built = built_line first is.saved shelf is.last before middle after is.built is.put (saves.told is.saved is.last is.put);
      planned = λ lowest. planned (is.planned lowest);
      holds = λ held. saves.holds is.saved is.last is.put (is.holds held);
      longer = omega (arith, size, is.longer);
      few = omega (arith, size, low);
      adds = subst (λ k. AddsFiles (length first) k old new) place (leaves_files top first shelf under digest old now new before middle is here);
    }

-- All levels of the shelf are saved, and told.
pub record IsFinished (first shelf : List Image) (under own : List ℕ) (old new : State) (before after : Option (List ℕ)) : Type 0 where
  pub built : IsBuilt first shelf before after
  pub planned : HasLowestPlans first → HasLowestPlans shelf
  pub holds : HoldsIn old.stands first under → HoldsIn new.stands shelf own

pub finishes : (top : ℕ) (first shelf end : List Image) (under digest own : List ℕ) (old now new : State) (before middle after : Option (List ℕ))
    → IsUnderWay top first shelf under digest old now before middle → SavesTop shelf digest own now new middle after → end ≡ shelf → IsFinished first end under own old new before after
finishes top first shelf end under digest own old now new before middle after is saves same = record {
  built = built_line first is.saved end is.last before middle after is.built (same ∙ is.put) (saves.told is.saved is.last is.put);
  planned = λ lowest. subst HasLowestPlans (sym same) (is.planned lowest);
  holds = λ held. subst (λ xs. HoldsIn new.stands xs own) (sym same) (saves.holds is.saved is.last is.put (is.holds held));
}
