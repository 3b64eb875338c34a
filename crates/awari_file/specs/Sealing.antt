-- A file that was read, with its digest still to be compared.
use Rattle.std.specs.Prelude.{◌≡◌, ◌≢◌, ◌⊎◌, ◌<◌, ◌≤◌, ℕ, List, [], ◌∷◌, ◌++◌, length, Option, Some, None, Result, Ok, Err}
use Rattle.sha2.specs.Sha256.{sha256}
use Rattle.awari_streams.specs.Counted.{Grew}
use Rattle.awari_file.specs.declared.faults.FileFault.{FileFault}
use Rattle.awari_file.specs.declared.faults.FileFault.TheVariants as faults
use Rattle.awari_file.specs.declared.contents.Loaded.{Loaded}
use Rattle.awari_file.specs.declared.sealing.Behind.{Behind}
use Rattle.awari_file.specs.declared.sealing.Behind.TheVariants as behind
use Rattle.awari_file.specs.declared.sealing.Unsealed.{Unsealed}
use Rattle.awari_file.specs.FileText.{HasFile, body_text}
use Rattle.awari_file.specs.Reading.{file_in, Fails}
use Rattle.awari_file.specs.Source.{StopsIn, StopsFor, IsSoundSoFar, IsRefused, BeginsRight}

-- what came behind a digest, if no more came for this reason
abbrev pub behind_by : List ℕ → FileFault → Behind
behind_by (x ∷ over) short = behind.Byte
behind_by [] faults.Read = behind.Fault
behind_by [] short = behind.Nothing

-- Behind a digest, `over` came and `rest` did not: nothing is there, or some came, or the reader answered a fault before any.
abbrev pub IsBehind : Behind → List ℕ → List ℕ → Type 0
IsBehind behind.Nothing over rest = (over ≡ []) × (rest ≡ [])
IsBehind behind.Byte over rest = over ≢ []
IsBehind behind.Fault over rest = over ≡ []

-- of what is left, this digest came, and this of what is behind it
pub record Ends (digest : List ℕ) (after : Behind) (left : List ℕ) (known : Option (List ℕ)) : Type 0 where
  pub over : List ℕ
  pub rest : List ℕ
  pub whole : length digest ≡ 32
  pub known_is : known ≡ Some rest
  pub parts : left ≡ digest ++ (over ++ rest)
  pub behind_is : IsBehind after over rest

-- of what is left, no whole digest came
abbrev pub EndsEarly : List ℕ → Option (List ℕ) → FileFault → Type 0
EndsEarly left known faults.Truncated = length left < 32
EndsEarly left known faults.Read = StopsIn (λ came. length came < 32) left known
EndsEarly left known e = ⊥

-- The bytes begin as the file of what was found, and end in the digest that was found, or go on behind it.
pub record IsUnsealed (file : Unsealed) (bytes : List ℕ) (known : Option (List ℕ)) : Type 0 where
  pub left : List ℕ
  pub has : HasFile file.loaded.version file.loaded.image file.loaded.below
  pub parts : bytes ≡ body_text file.loaded.version file.loaded.image file.loaded.below ++ left
  pub ends : Ends file.loaded.digest file.behind left known

-- the digest of what was found
abbrev pub digest_of : Loaded → List ℕ
digest_of found = sha256 (body_text found.version found.image found.below)

-- what is wrong behind a right digest
abbrev pub fault_behind : Behind → Option FileFault
fault_behind behind.Nothing = None
fault_behind behind.Byte = Some faults.Trailing
fault_behind behind.Fault = Some faults.Read

-- the digest that was found is that of what was found, and nothing is wrong behind it; or this is the first fault
abbrev pub Seals : {X : Type 0} → Unsealed → Result X FileFault → Type 0
Seals file (Ok x) = (file.loaded.digest ≡ digest_of file.loaded) × (file.behind ≡ behind.Nothing)
Seals file (Err e) = ((file.loaded.digest ≢ digest_of file.loaded) × (e ≡ faults.Digest)) ⊎ ((file.loaded.digest ≡ digest_of file.loaded) × (fault_behind file.behind ≡ Some e))

-- the same within a file: with 69 the header is right, and so are the entries that are read at once
abbrev pub StopsBy : List ℕ → Option (List ℕ) → FileFault → Type 0
StopsBy bytes known e = StopsFor IsSoundSoFar IsRefused (BeginsRight bytes) bytes known e

abbrev pub Stops : List ℕ → Option (List ℕ) → FileFault → Type 0
Stops bytes known e = Fails e (file_in bytes) × StopsBy bytes known e

-- The faults of a reader that were counted, as a fault tells of them: one more with 68, and none with 60.
abbrev pub Tells : FileFault → ℕ → ℕ → Type 0
Tells faults.Read old new = Grew old new
Tells faults.Truncated old new = new ≡ old
Tells e old new = old ≤ new

-- the same of an answer, that tells of none if it is no fault
abbrev pub TellsOf : {X : Type 0} → ℕ → ℕ → Result X FileFault → Type 0
TellsOf old new (Ok x) = new ≡ old
TellsOf old new (Err e) = Tells e old new

-- the same, of what came behind a digest
abbrev pub TellsBehind : Behind → ℕ → ℕ → Type 0
TellsBehind behind.Nothing old new = new ≡ old
TellsBehind behind.Byte old new = new ≡ old
TellsBehind behind.Fault old new = Grew old new × (old ≤ new)
