-- What stands under the names of a folder's levels, and what its calls do to that.
use Rattle.std.specs.Prelude.{◌≡◌, ◌≢◌, ◌<◌, ◌≤◌, ◌+◌, ◌⊎◌, ⊤, ℕ, zero, suc, List, [], length, take, drop, replicate, Option, Some, None, IfSome, IsSomeAnd, IsNone, Result, Ok, Err}
use Rattle.awari_streams.specs.Counted.{Grew}
use Rattle.awari_table.specs.declared.TheConstants.{HIGHEST_LEVEL}
use Rattle.awari_table.specs.declared.images.Image.{Image}
use Rattle.awari_file.specs.Source.{BeginsRight}
use Rattle.awari_folder.specs.declared.calls.Refusal.{Refusal}
use Rattle.awari_folder.specs.declared.calls.Refusal.TheVariants as refusal
use Rattle.awari_folder.specs.declared.faults.FolderFault.{FolderFault}
use Rattle.awari_folder.specs.declared.faults.FolderFault.TheVariants.{Open, Memory}
use Rattle.awari_folder.specs.NextFile.{IsNextFile, IsFileFault}

-- What has the name of each level's file, if that is known: a file of these bytes, or none.
abbrev pub Stands : Type 0
Stands = ℕ → Option (Option (List ℕ))

-- Each name has what it had.
abbrev pub Same : {A : Type 0} → (ℕ → A) → (ℕ → A) → Type 0
Same old new = (n : ℕ) → new n ≡ old n

-- Each name but that of this level has what it had.
abbrev pub SameBut : {A : Type 0} → ℕ → (ℕ → A) → (ℕ → A) → Type 0
SameBut level old new = (n : ℕ) → n ≢ level → new n ≡ old n

-- Each name that had a file has that file.
abbrev pub KeepsFiles : Stands → Stands → Type 0
KeepsFiles old new = (n : ℕ) (bytes : List ℕ) → old n ≡ Some (Some bytes) → new n ≡ Some (Some bytes)

-- What holds of levels holds of them still.
abbrev pub Stays : (ℕ → Type 0) → (ℕ → Type 0) → Type 0
Stays old new = (n : ℕ) → old n → new n

-- The same, but for this level.
abbrev pub StaysBut : ℕ → (ℕ → Type 0) → (ℕ → Type 0) → Type 0
StaysBut level old new = (n : ℕ) → n ≢ level → old n → new n

-- What opening answers where it is known what has the name: none where no file has it, else a reader of the file's bytes.
abbrev pub Opens : {F : Type 0} → (F → Option (List ℕ)) → Option (Option (List ℕ)) → Option F → Type 0
Opens remaining None opened = ⊤
Opens remaining (Some None) opened = IsNone opened
Opens remaining (Some (Some bytes)) opened = IsSomeAnd opened (λ file. remaining file ≡ Some bytes)

-- What reading this many bytes at a place answers where it is known what has the name: none where no file has it, else how many bytes
-- the file has. If it has that many there, these are they.
abbrev pub Reads : Option (Option (List ℕ)) → ℕ → List ℕ → Option ℕ → Type 0
Reads None place got read = ⊤
Reads (Some None) place got read = IsNone read
Reads (Some (Some bytes)) place got read = (read ≡ Some (length bytes)) × (place + length got ≤ length bytes → got ≡ take (length got) (drop place bytes))

-- Where it was known what had the name, a file of these bytes, as far as they are known, has it now.
abbrev pub Becomes : Option (Option (List ℕ)) → Option (Option (List ℕ)) → Option (List ℕ) → Type 0
Becomes old new written = IfSome old (λ _. IfSome written (λ bytes. new ≡ Some (Some bytes)))

-- A crash may leave nothing else than before.
abbrev pub LeavesNoMore : (ℕ → Option (List ℕ) → Type 0) → (ℕ → Option (List ℕ) → Type 0) → Type 0
LeavesNoMore old new = (n : ℕ) (c : Option (List ℕ)) → new n c → old n c

-- A crash may leave nothing else than before, but under the name of this level what is of this kind.
abbrev pub LeavesToo : ℕ → (Option (List ℕ) → Type 0) → (ℕ → Option (List ℕ) → Type 0) → (ℕ → Option (List ℕ) → Type 0) → Type 0
LeavesToo level P old new = (n : ℕ) (c : Option (List ℕ)) → new n c → old n c ⊎ ((n ≡ level) × P c)

-- A crash may leave what it might have left before.
abbrev pub LeavesStill : (ℕ → Option (List ℕ) → Type 0) → (ℕ → Option (List ℕ) → Type 0) → Type 0
LeavesStill old new = (n : ℕ) (c : Option (List ℕ)) → old n c → new n c

-- All that was written of a file is these bytes, and they are on the disk.
abbrev pub IsWhole : Option (List ℕ) → Option (List ℕ) → List ℕ → Type 0
IsWhole written kept bytes = (written ≡ Some bytes) × (kept ≡ Some bytes)

-- Of a file that was given a name, all of which may not be on the disk: where it is known that these bytes of it are, a crash
-- leaves them, and else anything.
abbrev pub IsLeftOf : Option (List ℕ) → Option (List ℕ) → Type 0
IsLeftOf kept c = IfSome kept (λ bytes. c ≡ Some bytes)

-- How many calls were refused so far: by the folder itself, and for want of memory.
pub record Refusals : Type 0 where
  pub refused : ℕ
  pub lacking : ℕ

-- one more was refused by the folder itself
abbrev pub Refuses : Refusals → Refusals → Type 0
Refuses old new = Grew old.refused new.refused × (new.lacking ≡ old.lacking)

-- one more was refused for want of memory
abbrev pub Lacks : Refusals → Refusals → Type 0
Lacks old new = (new.refused ≡ old.refused) × Grew old.lacking new.lacking

-- a call that is refused is counted, and no other is
abbrev pub Counts : {T : Type 0} → Result T Refusal → Refusals → Refusals → Type 0
Counts (Err refusal.Refused) old new = Refuses old new
Counts (Err refusal.Memory) old new = Lacks old new
Counts (Ok x) old new = new ≡ old

-- 82 is answered where a call was refused, 84 where one was for want of memory, and neither otherwise
abbrev pub TellsRefusal : {T : Type 0} → Result T FolderFault → Refusals → Refusals → Type 0
TellsRefusal (Err (Open level)) old new = Refuses old new
TellsRefusal (Err Memory) old new = Lacks old new
TellsRefusal result old new = new ≡ old

-- 82 is answered where a call was refused, and nothing else is; with 84 one may have been for want of memory
abbrev pub OpenIfRefused : {T : Type 0} → Result T FolderFault → Refusals → Refusals → Type 0
OpenIfRefused (Err (Open level)) old new = Refuses old new
OpenIfRefused (Err Memory) old new = (new ≡ old) ⊎ Lacks old new
OpenIfRefused result old new = new ≡ old

-- the same of two folders
abbrev pub OpenIfEither : {T : Type 0} → Result T FolderFault → Refusals → Refusals → Refusals → Refusals → Type 0
OpenIfEither (Err (Open level)) old new other_old other_new = Refuses old new ⊎ Refuses other_old other_new
OpenIfEither (Err Memory) old new other_old other_new = ((new ≡ old) ⊎ Lacks old new) × ((other_new ≡ other_old) ⊎ Lacks other_old other_new)
OpenIfEither result old new other_old other_new = (new ≡ old) × (other_new ≡ other_old)

-- it is not 82
abbrev pub IsOfFile : FolderFault → Type 0
IsOfFile (Open level) = ⊥
IsOfFile fault = ⊤

-- these have the names
abbrev pub AreNames : Stands → (ℕ → Option (List ℕ)) → Type 0
AreNames stands names = (n : ℕ) → stands n ≡ Some (names n)

-- The first n levels' files are there and right, each over the one below it: this shelf, and the last one's digest.
abbrev pub HoldLevels : (ℕ → Option (List ℕ)) → ℕ → List Image → List ℕ → Type 0
HoldLevels names zero shelf digest = (shelf ≡ []) × (digest ≡ replicate 32 0)
HoldLevels names (suc n) shelf digest = (lower : List Image) × (below : List ℕ) × HoldLevels names n lower below
    × IsSomeAnd (names n) (λ bytes. IsNextFile lower below bytes shelf digest)

-- The files of all levels of this shelf are there and right, and the last one ends in this digest.
abbrev pub Holds : (ℕ → Option (List ℕ)) → List Image → List ℕ → Type 0
Holds names shelf digest = HoldLevels names (length shelf) shelf digest

-- The shelf has all levels up to the first whose file is not there, or this one.
pub record IsStoredTo (most : ℕ) (names : ℕ → Option (List ℕ)) (shelf : List Image) (digest : List ℕ) : Type 0 where
  pub levels : Holds names shelf digest
  pub few : length shelf ≤ most + 1
  pub end : (names (length shelf) ≡ None) ⊎ (most < length shelf)

-- The shelf has all levels up to the first whose file is not there, or the highest.
abbrev pub IsStored : (ℕ → Option (List ℕ)) → List Image → List ℕ → Type 0
IsStored names shelf digest = IsStoredTo HIGHEST_LEVEL names shelf digest

-- Where it is known what has the names: that is the shelf stored under them.
abbrev pub IsStoredIn : Stands → List Image → List ℕ → Type 0
IsStoredIn stands shelf digest = (names : ℕ → Option (List ℕ)) → AreNames stands names → IsStored names shelf digest

-- and that of its levels up to this one
abbrev pub IsStoredToIn : ℕ → Stands → List Image → List ℕ → Type 0
IsStoredToIn most stands shelf digest = (names : ℕ → Option (List ℕ)) → AreNames stands names → IsStoredTo most names shelf digest

-- where it is known what has the names: the files of this shelf
abbrev pub HoldsIn : Stands → List Image → List ℕ → Type 0
HoldsIn stands shelf digest = (names : ℕ → Option (List ℕ)) × AreNames stands names × Holds names shelf digest

-- of no name anything is known
abbrev pub nothing_known : ℕ → Option (Option (List ℕ))
nothing_known n = None

-- The fault of the file of this level, over this shelf and digest. It is 84 only if a call lacked memory, or once the file was read
-- as far as `BeginsRight` says.
abbrev pub IsFaultAt : Type 0 → (ℕ → Option (List ℕ)) → ℕ → List Image → List ℕ → FolderFault → Type 0
IsFaultAt lacked names level shelf below (Open n) = n ≡ level
IsFaultAt lacked names level shelf below Memory = lacked ⊎ IsSomeAnd (names level) BeginsRight
IsFaultAt lacked names level shelf below fault = IsSomeAnd (names level) (λ bytes. IsFileFault shelf below bytes fault)

-- The files below some level up to this one are right, and that of the level has the fault.
pub record IsFaultTo (lacked : Type 0) (most : ℕ) (names : ℕ → Option (List ℕ)) (fault : FolderFault) : Type 0 where
  pub level : ℕ
  pub low : level ≤ most
  pub shelf : List Image
  pub below : List ℕ
  pub right : HoldLevels names level shelf below
  pub here : IsFaultAt lacked names level shelf below fault
