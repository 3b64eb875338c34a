-- A folder in memory keeps each file that was ever given a name, the oldest first.
use Rattle.std.specs.Prelude.{◌≡◌, ◌≢◌, ℕ, List, [], ◌∷◌, ◌⊎◌, Option, Some, None, if◌then◌else◌, ◌==◌, Bool, true, false, is_some}
use Rattle.awari_file_tests.specs.declared.memory.MemoryDraft.{MemoryDraft}
use Rattle.awari_file_tests.specs.declared.memory.MemoryFolder.{MemoryFolder}
use Rattle.awari_file_tests.specs.declared.memory.Put.{Put}
use Rattle.awari_folder.specs.Contents.{IsLeftOf}
use Rattle.awari_folder.specs.State.{State}

-- a newer file where there is one
abbrev pub newer : Option (List ℕ) → Option (List ℕ) → Option (List ℕ)
newer None older = older
newer (Some bytes) older = Some bytes

abbrev pub bytes_under : Put → ℕ → Option (List ℕ)
bytes_under put n = if put.level == n then Some put.bytes.items else None

-- the newest that was given the name of a level
abbrev pub named : List Put → ℕ → Option (List ℕ)
named [] n = None
named (put ∷ puts) n = newer (named puts n) (bytes_under put n)

-- what has the names in a folder in memory
abbrev pub files_in : MemoryFolder → ℕ → Option (List ℕ)
files_in folder level = named folder.puts.items level

-- something lies there of a new file that got no name
abbrev pub has_draft : MemoryFolder → Bool
has_draft folder = is_some folder.beside

-- nothing lies there of a new file of this level
abbrev pub IsClearOf : MemoryFolder → ℕ → Type 0
IsClearOf folder level = folder.beside ≢ Some level

-- what was written into a new file
abbrev pub bytes_of : MemoryDraft → List ℕ
bytes_of draft = draft.bytes.items

-- what of a file is on the disk for certain
abbrev pub kept_of : Bool → List ℕ → Option (List ℕ)
kept_of true bytes = Some bytes
kept_of false bytes = None

-- what of a new file is on the disk for certain
abbrev pub kept_bytes_of : MemoryDraft → Option (List ℕ)
kept_bytes_of draft = kept_of draft.synced draft.bytes.items

-- under a name a crash may leave nothing, or what it leaves of a file that was given it
abbrev pub MayLeave : List Put → ℕ → Option (List ℕ) → Type 0
MayLeave [] n c = c ≡ None
MayLeave (put ∷ puts) n c = MayLeave puts n c ⊎ ((n ≡ put.level) × IsLeftOf (kept_of put.synced put.bytes.items) c)

-- what a crash may leave of a folder in memory
abbrev pub MayLeaveOf : MemoryFolder → ℕ → Option (List ℕ) → Type 0
MayLeaveOf folder = MayLeave folder.puts.items

-- all that is known of it
abbrev pub state_of : MemoryFolder → State
state_of folder = record {
  stands = λ n. Some (files_in folder n);
  may_leave = MayLeaveOf folder;
  is_clear = IsClearOf folder;
  refusals = record { refused = folder.refused; lacking = folder.lacking };
  stuck = folder.stuck;
}
