-- What is said of levels in memory, or by files.
use Rattle.std.proofs.Common.{get_or, ◌≡◌, ℕ, List, slice_get, sum, Option, Some, None, Result, Ok, Err, ℤ, refl, sym, ap, subst, ◌∙◌, arith}
use Rattle.std.proofs.lemmas.List.{length-take-le}
use Rattle.std.specs.Prelude.{IfErr, IsSomeAnd}
use Rattle.std.proofs.lemmas.Option.{get_or_from_slice_get}
use Rattle.awari_folder.specs.Contents.{Same, Stands}
use Rattle.awari_folder.specs.declared.faults.FolderFault.{FolderFault}
use Rattle.awari_places.proofs.Reading.{still_says}
use Rattle.awari_places.proofs.Running.{fault_before}
use Rattle.awari_places.specs.Faults.{IsLimitFault}
use Rattle.awari_places.specs.Places.{AreFormed}
use Rattle.awari_places.specs.Runs.{IsEntryAt}
use Rattle.awari_rank.specs.Rank.{rank_of, size_of}
use Rattle.awari_table.proofs.ShelfLemmas.{entry_of-read}
use Rattle.awari_table.specs.Images.{entry_of, no_entry, no_image}
use Rattle.awari_table.specs.Shelves.{IsShelf}
use Rattle.awari_table.specs.declared.images.Entry.{Entry}
use Rattle.awari_table.specs.declared.images.Image.{Image}
use Rattle.awari_facts.specs.Sources.{IsLimitUnread, IsUnreadFrom, SaysBy, limit_of}
use Rattle.awari_facts.specs.declared.sources.Source.{Source}
use Rattle.awari_facts.specs.declared.sources.Source.TheVariants.{Memory, Files}

-- what is said where no name changed
pub says_still : (source : Source) (old new : Stands) (images : List Image) → Same old new → SaysBy source old images → SaysBy source new images
says_still (Memory levels) old new images same says = says
says_still (Files levels) old new images same says = still_says old new levels images same says

-- why an entry is not read, where no name changed
pub unread_before : (source : Source) (level rank : ℕ) (old new : Stands) (fault : FolderFault) → Same old new → IsUnreadFrom source level rank (new level) fault → IsUnreadFrom source level 0 (old level) fault
unread_before (Memory levels) level rank old new fault same is = is
unread_before (Files levels) level rank old new fault same is = fault_before level rank 0 old new fault same (omega arith) is

-- why a limit is not read in a header
pub unread_limit : (source : Source) (levels level : ℕ) (known : Option (Option (List ℕ))) (r : Result ℕ FolderFault) → source ≡ Files levels
    → ((name : Option (List ℕ)) → known ≡ Some name → IfErr r (IsLimitFault level name)) → IfErr r (IsLimitUnread source level known)
unread_limit source levels level known (Ok n) is due = tt
unread_limit source levels level known (Err fault) is due = subst (λ (s : Source). IsLimitUnread s level known fault) (sym is) (λ name here. due name here)

pub image_of : (o : Option Image) (P : Image → Type 0) → IsSomeAnd o P → (image : Image) × (o ≡ Some image) × P image
image_of None P h = absurd h
image_of (Some image) P h = (image, refl, h)

pub limit_said : (images : List Image) (level limit : ℕ) → IsSomeAnd (slice_get images level) (λ image. limit ≡ image.limit) → limit ≡ limit_of images level
limit_said images level limit there =
    let (image, found, is) = image_of (slice_get images level) (λ image. limit ≡ image.limit) there in
    is ∙ ap (λ (m : Image). m.limit) (sym (get_or_from_slice_get images level image no_image found))

-- the entry at a board's place is the board's
pub entry_there : (images : List Image) (board : List ℕ) (stones rank : ℕ) (e : Entry) → IsEntryAt images stones rank e → stones ≡ sum board → rank ≡ rank_of board → e ≡ entry_of images board
entry_there images board stones rank e there same ranked =
    let here : IsEntryAt images (sum board) (rank_of board) e = subst (λ (n : ℕ). IsEntryAt images n (rank_of board) e) same (subst (λ (k : ℕ). IsEntryAt images stones k e) ranked there) in
    let (image, found, read) = image_of (slice_get images (sum board)) (λ image. slice_get image.entries (rank_of board) ≡ Some e) here in
    entry_of-read images board image e found read

-- and so is its value
pub value_there : (images : List Image) (board : List ℕ) (stones rank : ℕ) (v : ℤ) → v ≡ (get_or (get_or images stones no_image).entries rank no_entry).value → stones ≡ sum board → rank ≡ rank_of board
    → v ≡ (entry_of images board).value
unfolding entry_of
value_there images board stones rank v there same ranked =
    there ∙ ap (λ n. (get_or (get_or images n no_image).entries rank no_entry).value) same ∙ ap (λ k. (get_or (get_or images (sum board) no_image).entries k no_entry).value) ranked

-- the levels of a shelf have their numbers and their boards
pub shelf_formed : (images : List Image) → IsShelf images → AreFormed images
shelf_formed images shelf = record {
  few = shelf.few;
  number = λ level low. (shelf.consistent level low).next ∙ length-take-le level images (omega (arith, low));
  sized = λ level low. (shelf.consistent level low).sized ∙ ap size_of ((shelf.consistent level low).next ∙ length-take-le level images (omega (arith, low)));
}
