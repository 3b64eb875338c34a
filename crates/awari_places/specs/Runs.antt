-- Entries of one level in order of rank, read many at once.
use Rattle.std.specs.Prelude.{◌≡◌, ℕ, ◌+◌, ◌*◌, ◌<◌, ◌≤◌, List, drop, length, slice_get, slice_index_or, take, Option, None, Some, IsErr, IsSomeAnd}
use Rattle.awari_file.specs.Reading.{entry_of}
use Rattle.awari_file.specs.declared.faults.FileFault.{FileFault}
use Rattle.awari_file.specs.declared.faults.FileFault.TheVariants as faults
use Rattle.awari_table.specs.Images.{no_entry}
use Rattle.awari_table.specs.declared.images.Entry.{Entry}
use Rattle.awari_table.specs.declared.images.Image.{Image}
use Rattle.awari_places.specs.Places.{entry_or_none}
use Rattle.awari_places.specs.declared.kept.Run.{Run}

-- the level has this entry at the rank
abbrev pub IsEntryAt : List Image → ℕ → ℕ → Entry → Type 0
IsEntryAt images level rank e = IsSomeAnd (slice_get images level) (λ image. slice_get image.entries rank ≡ Some e)

-- the entries of the run are those that the level has from its first rank on
abbrev pub IsRunOf : List Image → ℕ → Run → Type 0
IsRunOf images level run = (k : ℕ) → k < run.count → IsEntryAt images level (run.first + k) (slice_index_or run.entries k no_entry)

-- Private functions alone go by these: no public contract does. The run has this entry of the rank.
abbrev pub IsKept : Run → ℕ → Entry → Type 0
IsKept run rank e = (k : ℕ) × (k < run.count) × (run.first + k ≡ rank) × (e ≡ slice_index_or run.entries k no_entry)

-- The entries of the run are those that these bytes spell, six bytes each.
pub record AreEntriesOf (bytes : List ℕ) (run : Run) : Type 0 where
  pub few : 6 * run.count ≤ length bytes
  pub each : (k : ℕ) → k < run.count → slice_index_or run.entries k no_entry ≡ entry_or_none (entry_of (take 6 (drop (6 * k) bytes)))

-- the fault of a file that has this many bytes, or is gone, and was to have this many
abbrev pub IsLengthFault : Option ℕ → ℕ → FileFault → Type 0
IsLengthFault None whole fault = fault ≡ faults.Read
IsLengthFault (Some n) whole fault = (fault ≡ faults.Truncated) × (n < whole)

-- the six bytes at this place of those that were read are no entry
abbrev pub HasNoEntry : List ℕ → ℕ → Type 0
HasNoEntry bytes place = IsErr (entry_of (take 6 (drop (6 * place) bytes)))

-- some six of the bytes are no entry
pub record IsFormFault (bytes : List ℕ) (fault : FileFault) : Type 0 where
  pub told : fault ≡ faults.EntryForm
  pub place : ℕ
  pub inside : 6 * place + 6 ≤ length bytes
  pub none : HasNoEntry bytes place
