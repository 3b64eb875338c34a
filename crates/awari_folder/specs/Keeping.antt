-- A level that is saved in place of no file.
use Rattle.std.specs.Prelude.{◌≡◌, ◌≢◌, ◌⊎◌, ⊤, ℕ, List, Option, Some, None, IsSome, IsSomeAnd}
use Rattle.awari_streams.specs.Counted.{Grew}
use Rattle.awari_file.specs.declared.faults.FileFault.TheVariants.{Read, Write}
use Rattle.awari_folder.specs.declared.faults.FolderFault.{FolderFault}
use Rattle.awari_folder.specs.declared.faults.FolderFault.TheVariants.{Below, File, Open, Verify, Memory, Occupied, Old}

-- no file has the name, or this one
abbrev pub IsFreeFor : List ℕ → Option (List ℕ) → Type 0
IsFreeFor text name = (name ≡ None) ⊎ (name ≡ Some text)

-- The fault of a level whose file is to be this, where another may have its name: 82, 84, 85 where another has it, and 81 with 70
-- where none has, or with 68 where one could not be read.
abbrev pub IsKeepFault : ℕ → List ℕ → Option (List ℕ) → FolderFault → Type 0
IsKeepFault number text name (Below level) = ⊥
IsKeepFault number text name (File level fault) = (level ≡ number) × (((name ≡ None) × (fault ≡ Write)) ⊎ (IsSome name × (fault ≡ Read)))
IsKeepFault number text name (Open level) = level ≡ number
IsKeepFault number text name (Verify level fault) = ⊥
IsKeepFault number text name Memory = ⊤
IsKeepFault number text name (Occupied level) = (level ≡ number) × IsSomeAnd name (λ bytes. bytes ≢ text)
IsKeepFault number text name (Old level) = ⊥

-- The fault of a file that was opened and compared: it takes no memory, and 68 is told only if the reader answered a fault.
abbrev pub IsComparedFault : ℕ → ℕ → FolderFault → Type 0
IsComparedFault old new (Below level) = ⊥
IsComparedFault old new (File level fault) = Grew old new
IsComparedFault old new (Open level) = ⊥
IsComparedFault old new (Verify level fault) = ⊥
IsComparedFault old new Memory = ⊥
IsComparedFault old new (Occupied level) = ⊤
IsComparedFault old new (Old level) = ⊥
