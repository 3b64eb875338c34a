-- What a reader has left, and what came before.
use Rattle.std.specs.Prelude.{◌≡◌, ◌≢◌, ◌⊎◌, ◌<◌, ◌≤◌, Bool, true, false, min, IsOk, ℕ, List, ◌++◌, Option, Some, Result, Ok, Err}
use Rattle.std.specs.Io.KnownBytes.{Appends, IsAtEnd}
use Rattle.sha2.specs.Hashers.{Holds256}
use Rattle.sha2.specs.declared.Sha256.{Sha256}
use Rattle.awari_rank.specs.Rank.{size_of}
use Rattle.awari_streams.specs.Counted.{Grew}
use Rattle.awari_file.specs.declared.contents.Header.{Header}
use Rattle.awari_file.specs.declared.sizes.TheConstants.{BUFFERED}
use Rattle.awari_file.specs.declared.faults.FileFault.{FileFault}
use Rattle.awari_file.specs.declared.faults.FileFault.TheVariants as faults
use Rattle.awari_table.specs.declared.images.Entry.{Entry}
use Rattle.awari_file.specs.FileText.{IsBytes}
use Rattle.awari_file.specs.Reading.{header_at, entries_at, file_in, Fails}

-- Why fewer bytes came than were asked for: the input ended, or the reader answered a fault, which was counted.
abbrev pub IsWhy : FileFault → Option (List ℕ) → ℕ → ℕ → Type 0
IsWhy faults.Truncated known old new = IsAtEnd known
IsWhy faults.Read known old new = Grew old new
IsWhy e known old new = ⊥

-- Why this many bytes came and not all that were wanted: a fault of the reader is counted, and nothing else is.
pub record EndsFor (short : FileFault) (count wanted : ℕ) (known : Option (List ℕ)) (old new : ℕ) : Type 0 where
  pub why : count < wanted → IsWhy short known old new
  pub read : short ≡ faults.Read → Grew old new
  pub calm : short ≢ faults.Read → new ≡ old
  pub whole : count ≡ wanted → new ≡ old
  pub memory : short ≢ faults.Memory
  pub faults : old ≤ new

-- a refusal is this one alone, of a stream that answered a fault, which was counted
abbrev pub RefusesAs : {X : Type 0} → FileFault → ℕ → ℕ → Result X FileFault → Type 0
RefusesAs only old new (Ok x) = old ≤ new
RefusesAs only old new (Err e) = (e ≡ only) × Grew old new × (old ≤ new)

-- The reader stopped within what was left, and what came of it is of this kind.
pub record StopsIn (P : List ℕ → Type 0) (left : List ℕ) (known : Option (List ℕ)) : Type 0 where
  pub came : List ℕ
  pub rest : List ℕ
  pub known_is : known ≡ Some rest
  pub parts : left ≡ came ++ rest
  pub kind : P came

-- what came of a field has this fault: with 60, it ends before the field does
abbrev pub HasFault : {Z : Type 0} → FileFault → (FileFault → List ℕ → Result Z FileFault) → List ℕ → Type 0
HasFault e f came = f faults.Truncated came ≡ Err e

-- Where reading stops with a fault. With 68 what came is of the one kind, with a fault of its own it has that one, and with 69 the
-- condition holds.
abbrev pub StopsFor : (List ℕ → Type 0) → (FileFault → List ℕ → Type 0) → Type 0 → List ℕ → Option (List ℕ) → FileFault → Type 0
StopsFor sound refused lacking left known faults.Read = StopsIn sound left known
StopsFor sound refused lacking left known faults.Memory = lacking
StopsFor sound refused lacking left known faults.Truncated = Unit {0}
StopsFor sound refused lacking left known e = StopsIn (refused e) left known

-- the same within a field
abbrev pub StopsAt : {Y : Type 0} → (FileFault → List ℕ → Result Y FileFault) → Type 0 → List ℕ → Option (List ℕ) → FileFault → Type 0
StopsAt f lacking left known e = StopsFor (HasFault faults.Truncated f) (λ d. HasFault d f) lacking left known e

-- what came of a file has this fault
abbrev pub IsRefused : FileFault → List ℕ → Type 0
IsRefused e came = file_in came ≡ Err e

-- What came of a file has no fault, but that it ends early, or is whole.
abbrev pub IsSoundSoFar : List ℕ → Type 0
IsSoundSoFar came = (file_in came ≡ Err faults.Truncated) ⊎ IsOk (file_in came)

-- of the whole input left is what the reader has, and done is what stands before it
pub record IsAt (whole left : List ℕ) (known : Option (List ℕ)) : Type 0 where
  pub done : List ℕ
  pub known_is : known ≡ Some left
  pub parts : whole ≡ done ++ left
  pub bytes : IsBytes done

-- A step that began where left was there: it read a field, and the reader is behind it; or the field has this fault.
abbrev pub Advances : {X Y : Type 0} → (X → Y) → (FileFault → List ℕ → Result (Y × List ℕ) FileFault) → List ℕ → List ℕ → Option (List ℕ) → Result X FileFault → Type 0
Advances view f whole left known (Ok x) = (rest : List ℕ) × IsAt whole rest known × (f faults.Truncated left ≡ Ok (view x, rest))
Advances view f whole left known (Err e) = Fails e (f faults.Truncated left)

-- the answer is what reading gives, but for the faults of the reader and of memory
abbrev pub Answers : {X Y : Type 0} → (X → Y) → Result X FileFault → Result Y FileFault → Type 0
Answers view (Ok x) read = read ≡ Ok (view x)
Answers view (Err e) read = Fails e read

-- entries were put behind the old ones as reading gives them; or reading gives this fault
abbrev pub Adds : {X : Type 0} → List Entry → List Entry → Result X FileFault → Result (List Entry × List ℕ) FileFault → Type 0
Adds old new (Ok x) read = (entries : List Entry) × (rest : List ℕ) × (new ≡ old ++ entries) × (read ≡ Ok (entries, rest))
Adds old new (Err e) read = read ≡ Err e

-- reading gives a value, or this fault
abbrev pub Judges : {X Y : Type 0} → Result X FileFault → Result Y FileFault → Type 0
Judges (Ok x) read = IsOk read
Judges (Err e) read = read ≡ Err e

-- Entries were put behind the old ones as reading gives them; or reading gives this fault; or there was no room for entries that
-- reading gives.
abbrev pub AddsOrLacks : {X : Type 0} → List Entry → List Entry → Result X FileFault → Result (List Entry × List ℕ) FileFault → Type 0
AddsOrLacks old new (Ok x) read = (entries : List Entry) × (rest : List ℕ) × (new ≡ old ++ entries) × (read ≡ Ok (entries, rest))
AddsOrLacks old new (Err e) read = (read ≡ Err e) ⊎ ((e ≡ faults.Memory) × IsOk read)

-- what is added over a reader
abbrev pub AddsAt : {X : Type 0} → List Entry → List Entry → ℕ → List ℕ → List ℕ → Option (List ℕ) → Result X FileFault → Type 0
AddsAt old new count whole left known (Ok x) = (entries : List Entry) × (rest : List ℕ) × (new ≡ old ++ entries) × IsAt whole rest known × (entries_at count faults.Truncated left ≡ Ok (entries, rest))
AddsAt old new count whole left known (Err e) = Fails e (entries_at count faults.Truncated left)

-- The header of the bytes is right, and so are the entries that are read at once, or all if there are fewer.
abbrev pub BeginsRight : List ℕ → Type 0
BeginsRight bytes = (header : Header) × (rest : List ℕ) × (header_at faults.Truncated bytes ≡ Ok (header, rest)) × IsOk (entries_at (min (size_of header.level) BUFFERED) faults.Truncated rest)

-- bytes were put behind what a writer holds, and behind what a hasher holds
pub record Puts (old new : Option (List ℕ)) (before after : Sha256) (bytes : List ℕ) : Type 0 where
  pub appends : Appends old new bytes
  pub holds : (m : List ℕ) → Holds256 before m → Holds256 after (m ++ bytes)

-- a reader with these bytes left had those next, and the rest is behind them; or it did not
abbrev pub Meets : Bool → List ℕ → Option (List ℕ) → List ℕ → Type 0
Meets true left known bytes = (rest : List ℕ) × (known ≡ Some rest) × (left ≡ bytes ++ rest)
Meets false left known bytes = (rest : List ℕ) → left ≢ bytes ++ rest
