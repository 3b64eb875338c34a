-- Reading a file from left to right, field by field, with the fault of the first field that has one.
use Rattle.std.specs.Prelude.{◌≡◌, ℕ, zero, suc, ◌-◌, ◌==◌, ◌||◌, Bool, List, [], ◌∷◌, length, take, drop, Option, Some, None, Result, Ok, Err, nat_lt, nat_le, if◌then◌else◌, slice_index}
use Rattle.std.specs.Int.{Width, w8, w16, w32, w64, from_be_bytes, cast_signed}
use Rattle.std.specs.Str.{bytes_eq}
use Rattle.sha2.specs.Sha256.{sha256}
use Rattle.awari_rank.specs.Rank.{size_of}
use Rattle.awari_table.specs.declared.images.Entry.{Entry}
use Rattle.awari_file.specs.declared.contents.Header.{Header}
use Rattle.awari_file.specs.declared.contents.Loaded.{Loaded}
use Rattle.awari_file.specs.declared.faults.FileFault.{FileFault}
use Rattle.awari_file.specs.declared.faults.FileFault.TheVariants as faults
use Rattle.awari_file.specs.FileText.{magic_number, highest_in}

infixl 10 ◌>>=◌
abbrev pub ◌>>=◌ : {A B : Type 0} → Result A FileFault → (A → Result B FileFault) → Result B FileFault
(Ok x) >>= f = f x
(Err e) >>= f = Err e

-- A field takes n bytes, of which it makes a value. Where there are fewer, the fault is short. It gives the value, and the
-- bytes after it.
abbrev pub field : {Y : Type 0} → ℕ → (List ℕ → Result Y FileFault) → FileFault → List ℕ → Result (Y × List ℕ) FileFault
field n made short bytes = if nat_lt (length bytes) n then Err short else (made (take n bytes) >>= λ y. Ok (y, drop n bytes))

-- a number that a test lets pass
abbrev pub number_if : Width → (ℕ → Bool) → FileFault → List ℕ → Result ℕ FileFault
number_if w test fault bytes = if test (from_be_bytes w bytes) then Ok (from_be_bytes w bytes) else Err fault

abbrev pub any_number : Width → List ℕ → Result ℕ FileFault
any_number w bytes = Ok (from_be_bytes w bytes)

abbrev pub as_they_are : List ℕ → Result (List ℕ) FileFault
as_they_are bytes = Ok bytes

-- a version that is read
abbrev pub is_version : ℕ → Bool
is_version n = n == 1 || n == 2

-- What stands before the entries: each of its fields, in order. The highest level goes by the version.
unfoldable pub header_at : FileFault → List ℕ → Result (Header × List ℕ) FileFault
header_at short bytes = do
  magic ← field 4 (number_if w32 (λ n. n == magic_number) faults.Magic) short bytes
  version ← field 2 (number_if w16 is_version faults.Version) short magic.1
  level ← field 1 (number_if w8 (λ n. nat_le n (highest_in version.0)) faults.LevelOutOfRange) short version.1
  nought ← field 1 (number_if w8 (λ n. n == 0) faults.Version) short level.1
  count ← field 8 (number_if w64 (λ n. n == size_of level.0) faults.Count) short nought.1
  limit ← field 4 (any_number w32) short count.1
  below ← field 32 as_they_are short limit.1
  Ok (record { version = version.0; level = level.0; limit = limit.0; below = below.0 }, below.1)

-- a plan byte: a pit, or 255 for none
abbrev pub is_plan_byte : ℕ → Bool
is_plan_byte b = nat_lt b 6 || b == 255

abbrev pub plan_of : ℕ → Option ℕ
plan_of b = if b == 255 then None else Some b

-- an entry of its six bytes
abbrev pub entry_of : List ℕ → Result Entry FileFault
entry_of bytes =
    if is_plan_byte (slice_index bytes 1)
    then Ok (record { value = cast_signed w8 (slice_index bytes 0); plan = plan_of (slice_index bytes 1); dist = from_be_bytes w32 (drop 2 bytes) })
    else Err faults.EntryForm

-- n entries, each of them a field
unfoldable pub entries_at : ℕ → FileFault → List ℕ → Result (List Entry × List ℕ) FileFault
entries_at zero short bytes = Ok ([], bytes)
entries_at (suc n) short bytes = do
  first ← field 6 entry_of short bytes
  others ← entries_at n short first.1
  Ok (first.0 ∷ others.0, others.1)

-- a digest that is the one that was computed
abbrev pub digest_if : List ℕ → List ℕ → Result (List ℕ) FileFault
digest_if computed bytes = if bytes_eq bytes computed then Ok bytes else Err faults.Digest

-- the digest of what stands before it, and then nothing
unfoldable pub end_at : List ℕ → FileFault → List ℕ → Result (List ℕ) FileFault
end_at body short bytes = do
  digest ← field 32 (digest_if (sha256 body)) short bytes
  if length digest.1 == 0 then Ok digest.0 else Err faults.Trailing

-- all of the bytes as a file
unfoldable pub file_in : List ℕ → Result Loaded FileFault
file_in bytes = do
  header ← header_at faults.Truncated bytes
  entries ← entries_at (size_of header.0.level) faults.Truncated header.1
  digest ← end_at (take (length bytes - length entries.1) bytes) faults.Truncated entries.1
  Ok (record {
    version = header.0.version;
    image = record { level = header.0.level; limit = header.0.limit; entries = entries.0 };
    below = header.0.below;
    digest = digest;
  })

-- what a function returned, seen by view, is what reading gives
abbrev pub Gives : {X Y : Type 0} → (X → Y) → Result X FileFault → Result Y FileFault → Type 0
Gives view (Ok x) read = read ≡ Ok (view x)
Gives view (Err e) read = read ≡ Err e

-- The fault of a field of its own: not that of missing bytes, of the reader or of memory.
abbrev pub IsOwn : FileFault → Type 0
IsOwn faults.Truncated = ⊥
IsOwn faults.Read = ⊥
IsOwn faults.Memory = ⊥
IsOwn e = Unit {0}

-- reading gives this fault, unless it is one of the reader or of memory
abbrev pub Fails : {Y : Type 0} → FileFault → Result Y FileFault → Type 0
Fails faults.Read read = Unit {0}
Fails faults.Memory read = Unit {0}
Fails e read = read ≡ Err e
