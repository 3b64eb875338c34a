-- The refusals: their numbers, what is told of them, and the level that they name.
use Rattle.std.specs.Prelude.{◌≡◌, ◌≢◌, ◌≤◌, ℕ, List, [], ◌∷◌, codes}
use Rattle.awari_faults.specs.Refusals.{Words, alone, with_number}
use Rattle.awari_table.specs.declared.TheConstants.{HIGHEST_LEVEL}
use Rattle.awari_file.specs.FileFault.{reason_of as file_reason_of}
use Rattle.awari_file.specs.declared.faults.FileFault.TheVariants as file
use Rattle.awari_verify.specs.VerifyFault.{reason_of as verify_reason_of}
use Rattle.awari_folder.specs.declared.faults.FolderFault.{FolderFault}
use Rattle.awari_folder.specs.declared.faults.FolderFault.TheVariants.{Below, File, Open, Verify, Memory, Occupied, Old}

-- what is told of it but for the fault inside it: its number, and the level that it names
abbrev pub reason_of : FolderFault → Words
reason_of (Below level) = with_number 80 (codes "level") level
reason_of (File level fault) = with_number 81 (codes "level") level
reason_of (Open level) = with_number 82 (codes "level") level
reason_of (Verify level fault) = with_number 83 (codes "level") level
reason_of Memory = alone 84
reason_of (Occupied level) = with_number 85 (codes "level") level
reason_of (Old level) = with_number 86 (codes "level") level

abbrev pub number_of : FolderFault → ℕ
number_of fault = (reason_of fault).number

-- what is told of the fault inside it, and of both
abbrev pub inside_of : FolderFault → List Words
inside_of (File level fault) = file_reason_of fault ∷ []
inside_of (Verify level fault) = verify_reason_of fault ∷ []
inside_of fault = []

abbrev pub refusal_of : FolderFault → List Words
refusal_of fault = reason_of fault ∷ inside_of fault

-- The refusal names this level. Want of memory names none, and is not told as a fault of a file.
abbrev pub Names : ℕ → FolderFault → Type 0
Names n (Below level) = level ≡ n
Names n (File level fault) = (level ≡ n) × (fault ≢ file.Memory)
Names n (Open level) = level ≡ n
Names n (Verify level fault) = level ≡ n
Names n Memory = Unit {0}
Names n (Occupied level) = level ≡ n
Names n (Old level) = level ≡ n

-- the refusal to save a level
abbrev pub IsSaveFault : ℕ → FolderFault → Type 0
IsSaveFault n (Below level) = ⊥
IsSaveFault n (File level fault) = (level ≡ n) × (fault ≡ file.Write)
IsSaveFault n (Open level) = level ≡ n
IsSaveFault n (Verify level fault) = ⊥
IsSaveFault n Memory = Unit {0}
IsSaveFault n (Occupied level) = ⊥
IsSaveFault n (Old level) = ⊥

-- it names a level that a shelf may hold
pub record NamesLevel (fault : FolderFault) : Type 0 where
  pub level : ℕ
  pub low : level ≤ HIGHEST_LEVEL
  pub named : Names level fault
