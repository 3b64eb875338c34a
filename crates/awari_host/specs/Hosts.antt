-- What is known of the folders on a host, by their names.
use Rattle.std.specs.Prelude.{◌≡◌, ◌≢◌, ⊤, ℕ, List}
use Rattle.awari_folder.specs.Contents.{Same, Stands}
use Rattle.awari_folder.specs.declared.faults.FolderFault.{FolderFault}
use Rattle.awari_folder.specs.declared.faults.FolderFault.TheVariants.{Open, Memory}

-- it is 82 or 84
abbrev pub IsLockFault : FolderFault → Type 0
IsLockFault (Open level) = ⊤
IsLockFault Memory = ⊤
IsLockFault fault = ⊥

-- Each folder has what it had, but the one of this name.
abbrev pub OthersStay : List ℕ → (List ℕ → Stands) → (List ℕ → Stands) → Type 0
OthersStay name old new = (other : List ℕ) → other ≢ name → new other ≡ old other

-- Each folder that the host keeps has what it had.
abbrev pub AllStay : (List ℕ → Type 0) → (List ℕ → Stands) → (List ℕ → Stands) → Type 0
AllStay keeps old new = (name : List ℕ) → keeps name → Same (old name) (new name)
