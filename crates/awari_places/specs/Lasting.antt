-- What stays of files while they are asked as a table: the laws of its trait.
use Rattle.std.proofs.Common.{◌≡◌, ◌∙◌, ℕ, List, Option, ap, inl, inr, length, refl, subst, sum, sym}
use Rattle.std.proofs.lemmas.List.FromFn.{length-map-range_with_len}
use Rattle.awari_folder.proofs.States.{unchanged, unchanged_then}
use Rattle.awari_folder.specs.Contents.{Same, Stands}
use Rattle.awari_folder.specs.State.{State}
use Rattle.awari_folder.specs.declared.faults.FolderFault.{FolderFault}
use Rattle.awari_play.specs.Saying.{IsLasting}
use Rattle.awari_rank.specs.Rank.{rank_of}
use Rattle.awari_table.specs.declared.images.Image.{Image}
use Rattle.awari_places.specs.Asked.{Keeps, by_files, misjudged_by, stands_in}
use Rattle.awari_places.specs.Faults.{IsBreachFault, IsEntryFault, IsJudgeFault, IsLookFault, IsRefusedAt}
use Rattle.awari_places.specs.Places.{Says, image_named, images_in}
use Rattle.awari_places.specs.declared.files.Files.{Files}

-- as many levels speak
pub levels_said : (stands : Stands) (levels : ℕ) (images : List Image) → Says stands levels images → length images ≡ levels
unfolding images_in
levels_said stands levels images says = ap length says.said ∙ length-map-range_with_len (image_named says.names) 0 levels

-- what files say that did not change
pub still_says : (old new : Stands) (levels : ℕ) (images : List Image) → Same old new → Says old levels images → Says new levels images
still_says old new levels images same says = record { names = says.names; known = λ n. same n ∙ says.known n; said = says.said }

pub said_before : (old new : Stands) (levels : ℕ) (images : List Image) → Same old new → Says new levels images → Says old levels images
said_before old new levels images same says = record { names = says.names; known = λ n. sym (same n) ∙ says.known n; said = says.said }

pub refused_before : (old new : Stands) (board : List ℕ) (fault : FolderFault) → Same old new → IsRefusedAt new board fault → IsRefusedAt old board fault
refused_before old new board fault same is = record { is_board = is.is_board; due = subst (λ (o : Option (Option (List ℕ))). IsEntryFault (sum board) (rank_of board) o fault) (same (sum board)) is.due }

pub look_before : (old new : Stands) (levels : ℕ) (fault : FolderFault) → Same old new → IsLookFault levels new fault → IsLookFault levels old fault
look_before old new levels fault same is = record { board = is.board; known = is.known; here = refused_before old new is.board fault same is.here }

pub breach_before : (old new : Stands) (levels : ℕ) (fault : FolderFault) → Same old new → IsBreachFault levels new fault → IsBreachFault levels old fault
breach_before old new levels fault same is =
    record { board = is.board; rule = is.rule; is_board = is.is_board; known = is.known; told = is.told; breaks = λ images says. is.breaks images (still_says old new levels images same says) }

pub judge_before : (old new : Stands) (levels : ℕ) (fault : FolderFault) → Same old new → IsJudgeFault levels new fault → IsJudgeFault levels old fault
judge_before old new levels fault same (inl is) = inl (look_before old new levels fault same is)
judge_before old new levels fault same (inr is) = inr (breach_before old new levels fault same is)

pub files_last : {F : Type 0} (state : F → State) → IsLasting (by_files state)
files_last state = record {
  itself = λ s. record { lent = refl; same = unchanged _; levels = refl };
  on = λ first then last one two. record { lent = two.lent ∙ one.lent; same = unchanged_then _ _ _ one.same two.same; levels = two.levels ∙ one.levels };
  levels = λ old new kept. kept.levels;
  says = λ old new images kept says. subst (λ n. Says (stands_in state new) n images) (sym kept.levels) (still_says _ _ _ images kept.same.stands says);
  said = λ old new images kept says. said_before _ _ _ images kept.same.stands (subst (λ n. Says (stands_in state new) n images) kept.levels says);
  refuses = λ old new board fault kept is. refused_before _ _ board fault kept.same.stands is;
  all = λ s images says. levels_said _ _ images says;
}

pub misjudged_before : {F : Type 0} (state : F → State) (old new : Files F) (fault : FolderFault) → Keeps state old new → misjudged_by state new fault → misjudged_by state old fault
misjudged_before state old new fault kept is =
    judge_before _ _ _ fault kept.same.stands (subst (λ n. IsJudgeFault n (stands_in state new) fault) kept.levels is)
