-- What is known of a folder, and how little its calls change of it.
use Rattle.std.specs.Prelude.{◌≡◌, ◌⊎◌, ℕ, List, [], ◌∷◌, ◌++◌, Option, None, Some, IfOk, IfSome, OnErr, OnOk, Result}
use Rattle.sha2.specs.Sha256.{sha256}
use Rattle.awari_streams.specs.Counted.{Grew}
use Rattle.awari_table.specs.Shelves.{Consistent}
use Rattle.awari_table.specs.declared.images.Image.{Image}
use Rattle.awari_file.specs.FileText.{HasFile, body_text, file_text}
use Rattle.awari_folder.specs.declared.faults.FolderFault.{FolderFault}
use Rattle.awari_folder.specs.Contents.{Same, SameBut, Stays, StaysBut, Becomes, LeavesNoMore, LeavesToo, LeavesStill, OpenIfRefused, Refusals, HoldsIn, TellsRefusal, Stands}

-- What has the name of a level's file, if that is known: a file of these bytes, or none. What a crash at this moment may leave
-- under that name. Whether nothing of a draft of this level lies there. Which calls were refused so far, not counting those to
-- remove a draft; and how many of those came to nothing.
pub record State : Type 1 where
  pub stands : Stands
  pub may_leave : ℕ → Option (List ℕ) → Type 0
  pub is_clear : ℕ → Type 0
  pub refusals : Refusals
  pub stuck : ℕ

-- Each name has what it had, and a crash leaves what it might have left. But for a draft of this level, none is left that was not
-- there.
pub record DraftsOnly (level : ℕ) (old new : State) : Type 0 where
  pub stands : Same old.stands new.stands
  pub crash : LeavesNoMore old.may_leave new.may_leave
  pub still : LeavesStill old.may_leave new.may_leave
  pub clear : StaysBut level old.is_clear new.is_clear

-- the same, for all drafts, and with no call that came to nothing
pub record Unchanged (old new : State) : Type 0 where
  pub stands : Same old.stands new.stands
  pub crash : LeavesNoMore old.may_leave new.may_leave
  pub still : LeavesStill old.may_leave new.may_leave
  pub clear : Stays old.is_clear new.is_clear
  pub stuck : new.stuck ≡ old.stuck

-- The name of this level alone may have changed, and a crash may leave what is of this kind under it, or what it might have left.
pub record MayName (level : ℕ) (P : Option (List ℕ) → Type 0) (old new : State) : Type 0 where
  pub others : SameBut level old.stands new.stands
  pub crash : LeavesToo level P old.may_leave new.may_leave
  pub still : LeavesStill old.may_leave new.may_leave
  pub clear : StaysBut level old.is_clear new.is_clear

-- a draft with these bytes, as far as they are known, has the name of this level, and lies there no longer
abbrev pub GetsName : ℕ → Option (List ℕ) → State → State → Type 0
GetsName level written old new = Becomes (old.stands level) (new.stands level) written × new.is_clear level

-- nothing is changed, and it is 82 if the folder refused to open a file, and only then
pub record OnlyReads {T : Type 0} (result : Result T FolderFault) (old new : State) : Type 0 where
  pub unchanged : Unchanged old new
  pub refused : OpenIfRefused result old.refusals new.refusals

-- A level's name has the level's file, over the one that ends in `below`, and no draft of it is left. A folder that holds a shelf
-- holds it with the level on top, if the level is right over it.
pub record Saves (image : Image) (below : List ℕ) (old new : State) : Type 0 where
  pub own : Becomes (old.stands image.level) (new.stands image.level) (Some (file_text 2 image below))
  pub next : (shelf : List Image) → HoldsIn old.stands shelf below → Consistent shelf image → HoldsIn new.stands (shelf ++ image ∷ []) (sha256 (body_text 2 image below))

-- What a save leaves, whatever it answers. The other names stay. A crash at any moment leaves each name what it might have left
-- before, or this of the level's name. No draft is left where none was, or it could not be removed.
pub record Leaves (level : ℕ) (P : Option (List ℕ) → Option (List ℕ) → Type 0) (old new : State) : Type 0 where
  pub others : SameBut level old.stands new.stands
  pub crash : IfSome (old.stands level) (λ name. LeavesToo level (P name) old.may_leave new.may_leave)
  pub still : LeavesStill old.may_leave new.may_leave
  pub clear : old.is_clear level → new.is_clear level ⊎ Grew old.stuck new.stuck
  pub others_clear : StaysBut level old.is_clear new.is_clear

-- the level has a file over the one that ends in `below`, and it ends in this digest
abbrev pub IsOwnDigest : Image → List ℕ → List ℕ → Type 0
IsOwnDigest image below digest = HasFile 2 image below × (digest ≡ sha256 (body_text 2 image below))

-- What a save does. It gives the digest of the level's file, which has the name; or it changes no name. It is 82 if the folder
-- refused a call, 84 if it lacked memory for one, and neither otherwise.
pub record Outcome (image : Image) (below : List ℕ) (P : Option (List ℕ) → Option (List ℕ) → Type 0) (result : Result (List ℕ) FolderFault) (old new : State) : Type 0 where
  pub digest : IfOk result (IsOwnDigest image below)
  pub saved : OnOk result (Saves image below old new)
  pub err : OnErr result (Same old.stands new.stands)
  pub leaves : Leaves image.level P old new
  pub refused : TellsRefusal result old.refusals new.refusals

-- in place of whatever has the name: the level's file, whole
abbrev pub IsOwnFile : Image → List ℕ → Option (List ℕ) → Option (List ℕ) → Type 0
IsOwnFile image below name left = left ≡ Some (file_text 2 image below)

-- the same, if no file has the name
abbrev pub IsOwnIfFree : Image → List ℕ → Option (List ℕ) → Option (List ℕ) → Type 0
IsOwnIfFree image below name left = (name ≡ None) × (left ≡ Some (file_text 2 image below))
