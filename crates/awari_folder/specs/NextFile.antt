-- A file as the next level of a shelf.
use Rattle.std.specs.Prelude.{◌≡◌, ◌≢◌, ℕ, List, [], ◌∷◌, ◌++◌, length}
use Rattle.awari_table.specs.declared.images.Image.{Image}
use Rattle.awari_table.specs.Shelves.{Consistent}
use Rattle.awari_file.specs.declared.contents.Loaded.{Loaded}
use Rattle.awari_file.specs.FileText.{IsFileOf}
use Rattle.awari_file.specs.Reading.{file_in, Fails}
use Rattle.awari_file.specs.Source.{BeginsRight}
use Rattle.awari_file.specs.declared.faults.FileFault.TheVariants as reads
use Rattle.awari_verify.specs.VerifyFault.{IsDue}
use Rattle.awari_folder.specs.declared.faults.FolderFault.{FolderFault}
use Rattle.awari_folder.specs.declared.faults.FolderFault.TheVariants.{Below, File, Open, Verify, Memory, Occupied, Old}

-- The bytes are the file, of version 2, of a level that is right over the shelf, over the file that ends in `below`. They end in
-- `digest`, and `after` is the shelf with the level on it.
pub record IsNextFile (shelf : List Image) (below bytes : List ℕ) (after : List Image) (digest : List ℕ) : Type 0 where
  pub loaded : Loaded
  pub file : IsFileOf bytes loaded
  pub of_version : loaded.version ≡ 2
  pub over : loaded.below ≡ below
  pub ends : digest ≡ loaded.digest
  pub right : Consistent shelf loaded.image
  pub on_top : after ≡ shelf ++ loaded.image ∷ []

-- The bytes are a file of version 1.
pub record IsOld (bytes : List ℕ) : Type 0 where
  pub loaded : Loaded
  pub file : IsFileOf bytes loaded
  pub of_version : loaded.version ≡ 1

-- The bytes are a file of this version, over one that ends in another digest.
pub record IsOverAnother (version : ℕ) (below bytes : List ℕ) : Type 0 where
  pub loaded : Loaded
  pub file : IsFileOf bytes loaded
  pub of_version : loaded.version ≡ version
  pub another : loaded.below ≢ below

-- The bytes are a file of this version over the right one, and its level has this fault.
pub record IsWrong (version : ℕ) (below bytes : List ℕ) (P : Image → Type 0) : Type 0 where
  pub loaded : Loaded
  pub file : IsFileOf bytes loaded
  pub of_version : loaded.version ≡ version
  pub over : loaded.below ≡ below
  pub wrong : P loaded.image

-- The fault of bytes that are to be the file of the shelf's next level. With 84 the header is right, and so are the entries that are
-- read at once.
abbrev pub IsFileFault : List Image → List ℕ → List ℕ → FolderFault → Type 0
IsFileFault shelf below bytes (File level fault) = (level ≡ length shelf) × Fails fault (file_in bytes) × (fault ≢ reads.Memory)
IsFileFault shelf below bytes (Below level) = (level ≡ length shelf) × IsOverAnother 2 below bytes
IsFileFault shelf below bytes (Verify level fault) = (level ≡ length shelf) × IsWrong 2 below bytes (λ image. IsDue shelf image fault)
IsFileFault shelf below bytes (Open level) = ⊥
IsFileFault shelf below bytes Memory = BeginsRight bytes
IsFileFault shelf below bytes (Occupied level) = ⊥
IsFileFault shelf below bytes (Old level) = (level ≡ length shelf) × IsOld bytes
