-- What is said of a file that was read, over a shelf.
use Rattle.std.specs.Prelude.{◌≡◌, ◌≢◌, ◌⊎◌, ◌<◌, ◌≤◌, ⊤, ℕ, List, [], ◌∷◌, ◌++◌, Option, Some, None, Result, Ok, Err}
use Rattle.awari_table.specs.declared.images.Image.{Image}
use Rattle.awari_streams.specs.Counted.{Grew}
use Rattle.awari_table.specs.Shelves.{Consistent}
use Rattle.awari_theory.specs.Truth.{TellsTruth}
use Rattle.awari_file.specs.declared.faults.FileFault.{FileFault}
use Rattle.awari_file.specs.declared.sealing.Unsealed.{Unsealed}
use Rattle.awari_file.specs.Sealing.{IsUnsealed, Seals, Stops}
use Rattle.awari_file.specs.declared.faults.FileFault.TheVariants as file
use Rattle.awari_verify.specs.VerifyFault.{IsDue}
use Rattle.awari_verify.specs.declared.verdicts.VerifyFault.{VerifyFault}
use Rattle.awari_verify.specs.declared.verdicts.VerifyFault.TheVariants.{Memory}
use Rattle.awari_folder.specs.Contents.{IsOfFile}
use Rattle.awari_folder.specs.FolderFault.{Names}
use Rattle.awari_folder.specs.declared.faults.FolderFault.{FolderFault}
use Rattle.awari_folder.specs.declared.faults.FolderFault.TheVariants.{File}
use Rattle.awari_folder.specs.declared.faults.FolderFault.TheVariants as folder

-- The image is consistent over the shelf, and the shelf with it on top tells the truth; or this fault is the one that is due, or
-- want of memory, if the verifier may lack it.
abbrev pub IsVerdict : Type 0 → List Image → Image → Option VerifyFault → Type 0
IsVerdict lacks shelf image None = Consistent shelf image × TellsTruth (shelf ++ image ∷ [])
IsVerdict lacks shelf image (Some fault) = ((fault ≡ Memory) × lacks) ⊎ IsDue shelf image fault

-- the same of a file that is sealed by its digest; or why it is not
abbrev pub IsJudged : Type 0 → List Image → Unsealed → Result (Option VerifyFault) FileFault → Type 0
IsJudged lacks shelf file (Ok verdict) = Seals {X = ⊤} file (Ok tt) × IsVerdict lacks shelf file.loaded.image verdict
IsJudged lacks shelf file (Err fault) = Seals {X = Option VerifyFault} file (Err fault)

-- The file is sealed, of version 2 and over the right one, so that nothing is wrong before its level is judged; and then the verifier
-- may lack memory, or the level is right.
abbrev pub IsPlaced : Type 0 → List Image → List ℕ → Unsealed → Type 0
IsPlaced lacks shelf below file =
    Seals {X = ⊤} file (Ok tt) × (file.loaded.version ≢ 1) × (file.loaded.below ≡ below) × (lacks ⊎ Consistent shelf file.loaded.image)

-- Why a file, of one of these versions and over the one that ends in `below`, is not to be this level's: it is not sealed; or it is, and is
-- of an older version, or over another file.
abbrev pub IsMisplaced : ℕ → ℕ → List ℕ → Unsealed → FolderFault → Type 0
IsMisplaced level oldest below f (File number fault) = (number ≡ level) × Seals {X = ⊤} f (Err fault)
IsMisplaced level oldest below f (folder.Old number) = (number ≡ level) × Seals {X = ⊤} f (Ok tt) × (f.loaded.version < oldest)
IsMisplaced level oldest below f (folder.Below number) = (number ≡ level) × Seals {X = ⊤} f (Ok tt) × (oldest ≤ f.loaded.version) × (f.loaded.below ≢ below)
IsMisplaced level oldest below f fault = ⊥

-- The refusal tells what reading answered, and nothing else in its place: a fault of the file is that which was read or that of its
-- seal, and want of memory is that of the reading, or came of a file of this kind.
abbrev pub IsToldOf : (Unsealed → Type 0) → Result Unsealed FileFault → FolderFault → Type 0
IsToldOf lacks (Err e) (File level fault) = fault ≡ e
IsToldOf lacks (Err e) folder.Memory = e ≡ file.Memory
IsToldOf lacks (Err e) fault = ⊥
IsToldOf lacks (Ok f) (File level fault) = Seals {X = ⊤} f (Err fault)
IsToldOf lacks (Ok f) folder.Memory = lacks f
IsToldOf lacks (Ok f) fault = ⊤

-- The refusal names the shelf's next level, is of its file, and tells this.
pub record IsRefusal (levels : ℕ) (tells : FolderFault → Type 0) (fault : FolderFault) : Type 0 where
  pub named : Names levels fault
  pub of_file : IsOfFile fault
  pub told : tells fault

-- the bytes, of which a reader left the rest, were read so
abbrev pub IsReadAs : Result Unsealed FileFault → List ℕ → Option (List ℕ) → Type 0
IsReadAs (Ok f) bytes known = IsUnsealed f bytes known
IsReadAs (Err e) bytes known = Stops bytes known e

-- 81 with 68 is told only if the reader answered a fault
abbrev pub TellsReader : FolderFault → ℕ → ℕ → Type 0
TellsReader (File level file.Read) old new = Grew old new
TellsReader fault old new = ⊤
