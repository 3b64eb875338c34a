-- The levels of one folder brought over to another.
use Rattle.std.specs.Prelude.{◌≡◌, ◌≢◌, ◌<◌, ◌≤◌, ◌⊎◌, ⊤, ℕ, zero, suc, List, [], ◌∷◌, ◌++◌, length, replicate, Option, Some, None, IsSome, IsSomeAnd, Ok}
use Rattle.awari_table.specs.declared.TheConstants.{HIGHEST_LEVEL}
use Rattle.awari_table.specs.declared.images.Image.{Image}
use Rattle.awari_table.specs.Shelves.{Consistent}
use Rattle.awari_theory.specs.Older.{ConsistentOld}
use Rattle.awari_play.specs.Least.{NoFarther, IsPlannedLowest}
use Rattle.awari_verify.specs.Older.{IsDueOld}
use Rattle.awari_verify.specs.VerifyFault.{IsDue}
use Rattle.awari_verify.specs.declared.verdicts.VerifyFault.{VerifyFault}
use Rattle.awari_file.specs.declared.contents.Loaded.{Loaded}
use Rattle.awari_file.specs.declared.faults.FileFault.TheVariants.{Write}
use Rattle.awari_file.specs.FileText.{IsFileOf, file_text}
use Rattle.awari_file.specs.Reading.{file_in, Fails}
use Rattle.awari_file.specs.Sealing.{Seals}
use Rattle.awari_file.specs.declared.sealing.Unsealed.{Unsealed}
use Rattle.awari_folder.specs.declared.faults.FolderFault.{FolderFault}
use Rattle.awari_folder.specs.declared.faults.FolderFault.TheVariants.{Below, File, Open, Verify, Memory, Occupied, Old}
use Rattle.awari_migrate.specs.declared.migrating.Limits.{Limits}
use Rattle.awari_migrate.specs.declared.migrating.MigratedLevel.{MigratedLevel}
use Rattle.awari_folder.specs.NextFile.{IsOverAnother, IsWrong}
use Rattle.awari_folder.specs.Contents.{AreNames, HoldsIn, LeavesStill, Stands}
use Rattle.awari_folder.specs.State.{State}

-- the fault of an image by the rules of its version
abbrev pub IsDueIn : ℕ → List Image → Image → VerifyFault → Type 0
IsDueIn version shelf image fault = ((version ≡ 1) × IsDueOld shelf image fault) ⊎ ((version ≢ 1) × IsDue shelf image fault)

-- What the image of a file becomes over the shelf, if it is right by the rules of its version. In version 1 the values stay, and
-- distances and plans become the least and the lowest; in version 2 all stays.
pub record IsMigratedImage (version : ℕ) (shelf : List Image) (old new : Image) : Type 0 where
  pub was : version ≡ 1 → ConsistentOld shelf old
  pub right : Consistent shelf new
  pub nearer : version ≡ 1 → NoFarther old.entries new.entries
  pub planned : version ≡ 1 → IsPlannedLowest shelf new
  pub same : version ≢ 1 → new ≡ old

-- The bytes are a file over the one that ends in `below`. They end in `digest`, and over the shelf their image becomes `image`.
pub record IsMigratedFile (shelf : List Image) (below bytes : List ℕ) (image : Image) (digest : List ℕ) (limits : Limits) : Type 0 where
  pub loaded : Loaded
  pub file : IsFileOf bytes loaded
  pub over : loaded.below ≡ below
  pub ends : digest ≡ loaded.digest
  pub migrated : IsMigratedImage loaded.version shelf loaded.image image
  pub before : limits.before ≡ loaded.image.limit
  pub after : limits.after ≡ image.limit

-- The files of the first n levels, each over the one below it, become this shelf, with these limits before and after. The last
-- file ends in this digest.
abbrev pub MigrateLevels : (ℕ → Option (List ℕ)) → ℕ → List Image → List ℕ → List Limits → Type 0
MigrateLevels names zero shelf digest limits = (shelf ≡ []) × (digest ≡ replicate 32 0) × (limits ≡ [])
MigrateLevels names (suc n) shelf digest limits = (lower : List Image) × (below : List ℕ) × (fewer : List Limits) × (image : Image) × (more : Limits)
    × MigrateLevels names n lower below fewer × IsSomeAnd (names n) (λ bytes. IsMigratedFile lower below bytes image digest more)
    × (shelf ≡ lower ++ image ∷ []) × (limits ≡ fewer ++ more ∷ [])

-- the shelf's next level, brought over from the file that has its name, or none where none has
abbrev pub IsNextMigrated : List Image → List ℕ → Option (List ℕ) → Option MigratedLevel → Type 0
IsNextMigrated shelf below name None = name ≡ None
IsNextMigrated shelf below name (Some migrated) = IsSomeAnd name (λ bytes. IsMigratedFile shelf below bytes migrated.level migrated.digest migrated.limits)

-- All levels up to the first whose file is not there, or the highest, were brought over. Where there was no file of theirs,
-- their files are now, and the last one ends in this digest; the other names have what they had.
pub record IsMigrated (names others : ℕ → Option (List ℕ)) (stands : Stands) (limits : List Limits) (digest : List ℕ) : Type 0 where
  pub shelf : List Image
  pub last : List ℕ
  pub migrated : MigrateLevels names (length shelf) shelf last limits
  pub end : (names (length shelf) ≡ None) ⊎ (HIGHEST_LEVEL < length shelf)
  pub free : (n : ℕ) → n < length shelf → others n ≡ None
  pub stored : HoldsIn stands shelf digest
  pub rest : (n : ℕ) → length shelf ≤ n → stands n ≡ Some (others n)

-- the file with these bytes can be brought over
pub record CanMigrate (shelf : List Image) (below bytes : List ℕ) : Type 0 where
  pub image : Image
  pub digest : List ℕ
  pub limits : Limits
  pub migrated : IsMigratedFile shelf below bytes image digest limits

-- The fault of the file that is next, or of the one that it is to become, where another may have its name.
abbrev pub IsMigrationFault : List Image → List ℕ → Option (List ℕ) → Option (List ℕ) → FolderFault → Type 0
IsMigrationFault shelf below name other (Below level) = (level ≡ length shelf) × IsSomeAnd name (λ bytes. (version : ℕ) × IsOverAnother version below bytes)
IsMigrationFault shelf below name other (File level fault) =
    (level ≡ length shelf) × (IsSomeAnd name (λ bytes. Fails fault (file_in bytes)) ⊎ (IsSomeAnd name (CanMigrate shelf below) × (other ≡ None) × (fault ≡ Write)))
IsMigrationFault shelf below name other (Open level) = level ≡ length shelf
IsMigrationFault shelf below name other (Verify level fault) =
    (level ≡ length shelf) × IsSomeAnd name (λ bytes. (version : ℕ) × IsWrong version below bytes (λ image. IsDueIn version shelf image fault))
IsMigrationFault shelf below name other Memory = ⊤
IsMigrationFault shelf below name other (Occupied level) = (level ≡ length shelf) × IsSomeAnd name (CanMigrate shelf below) × IsSome other
IsMigrationFault shelf below name other (Old level) = ⊥

-- The files below some level were brought over, and that level has the fault. What was brought over stands, and the other
-- names have what they had.
pub record IsFirstMigrationFault (names others : ℕ → Option (List ℕ)) (stands : Stands) (fault : FolderFault) : Type 0 where
  pub level : ℕ
  pub shelf : List Image
  pub below : List ℕ
  pub limits : List Limits
  pub digest : List ℕ
  pub migrated : MigrateLevels names level shelf below limits
  pub free : (n : ℕ) → n < level → others n ≡ None
  pub stored : HoldsIn stands shelf digest
  pub rest : (n : ℕ) → level ≤ n → stands n ≡ Some (others n)
  pub here : IsMigrationFault shelf below (names level) (others level) fault

-- the whole file, of version 2, of some image over some digest
abbrev pub IsWholeFile : Option (List ℕ) → Type 0
IsWholeFile left = (image : Image) × (below : List ℕ) × (left ≡ Some (file_text 2 image below))

-- A crash leaves under each name what it might have left before, or a whole file where there was none.
abbrev pub LeavesWhole : (ℕ → Option (List ℕ)) → (ℕ → Option (List ℕ) → Type 0) → (ℕ → Option (List ℕ) → Type 0) → Type 0
LeavesWhole others old new = (n : ℕ) (left : Option (List ℕ)) → new n left → old n left ⊎ ((others n ≡ None) × IsWholeFile left)

-- The fault of a level that is to be saved where it has no file, and another may have its name.
abbrev pub IsStoreFault : ℕ → Option (List ℕ) → FolderFault → Type 0
IsStoreFault number other (Below level) = ⊥
IsStoreFault number other (File level fault) = (level ≡ number) × (other ≡ None) × (fault ≡ Write)
IsStoreFault number other (Open level) = level ≡ number
IsStoreFault number other (Verify level fault) = ⊥
IsStoreFault number other Memory = ⊤
IsStoreFault number other (Occupied level) = (level ≡ number) × IsSome other
IsStoreFault number other (Old level) = ⊥

-- the least distances of a level of version 1 that is right may lack memory
abbrev pub LacksLeast : List Image → List ℕ → Unsealed → Type 0
LacksLeast shelf below f = Seals {X = ⊤} f (Ok tt) × (f.loaded.below ≡ below) × (f.loaded.version ≡ 1) × ConsistentOld shelf f.loaded.image

-- A crash leaves under each name what it might have left before, and else a whole file where there was none.
pub record CrashesWhole (old new : State) : Type 0 where
  pub still : LeavesStill old.may_leave new.may_leave
  pub whole : (others : ℕ → Option (List ℕ)) → AreNames old.stands others → LeavesWhole others old.may_leave new.may_leave
