-- The file that is to be next, and why it is not.
use Rattle.std.proofs.Common.{◌≡◌, ◌≢◌, ◌∙◌, ◌⊎◌, ◌<◌, List, [], ℕ, Option, Some, None, Result, Ok, Err, ◌++◌, ap, append_assoc, arith, inl, inr, length, min, subst, sym, take}
use Rattle.std.specs.Prelude.{◌≤◌, ◌-◌, IfErr, IfOk, IfSome, IsSomeAnd, MatchResult, ⊤}
use Rattle.std.specs.List.{flat_map}
use Rattle.awari_rank.specs.Rank.{size_of}
use Rattle.awari_table.specs.declared.images.Entry.{Entry}
use Rattle.awari_table.specs.declared.images.Image.{Image}
use Rattle.awari_file.specs.declared.faults.FileFault.{FileFault}
use Rattle.awari_file.specs.declared.sealing.Unsealed.{Unsealed}
use Rattle.awari_file.specs.declared.faults.FileFault.TheVariants as reads
use Rattle.awari_file.specs.declared.faults.FileFault.TheVariants.{Truncated}
use Rattle.awari_file.specs.declared.contents.Header.{Header}
use Rattle.awari_file.specs.declared.contents.Loaded.{Loaded}
use Rattle.awari_file.specs.declared.sealing.Behind.{Behind}
use Rattle.awari_file.specs.declared.sealing.Behind.TheVariants as behinds
use Rattle.awari_file.specs.Reading.{◌>>=◌, Fails, end_at, entries_at, file_in, header_at}
use Rattle.awari_file.specs.Sealing.{IsUnsealed, Seals, Stops, Tells, TellsBehind, fault_behind}
use Rattle.awari_file.specs.Source.{BeginsRight}
use Rattle.awari_file.proofs.FieldLaws.{bind_ok}
use Rattle.awari_file.proofs.Loop.{nothing_yet, ok_from, some_right}
use Rattle.awari_file.specs.FileText.{IsFileOf, body_text, entry_text, found_of, header_text}
use Rattle.awari_file.proofs.Sealed.{image_read, seal_stops, sealed_is}
use Rattle.awari_file.proofs.WholeLaws.{loaded_of}
use Rattle.awari_file.proofs.EntryLaws.{entries_again}
use Rattle.awari_file.proofs.WholeSpell.{FitsHeader, file_again, header_again, low_in, size_small}
use Rattle.awari_folder.specs.declared.faults.FolderFault.{FolderFault}
use Rattle.awari_folder.specs.declared.faults.FolderFault.TheVariants.{Below, File, Open, Verify, Memory, Occupied, Old}
use Rattle.awari_folder.specs.NextFile.{IsFileFault, IsNextFile}
use Rattle.awari_folder.specs.Contents.{HoldLevels, IsFaultAt, IsFaultTo, IsOfFile}
use Rattle.awari_folder.specs.Verifying.{IsMisplaced, IsReadAs, IsRefusal, IsToldOf, TellsReader}

-- what is read behind the entries of a file, and behind its header
abbrev after_entries : List ℕ → Header → List Entry × List ℕ → Result Loaded FileFault
after_entries bytes header entries = end_at (take (length bytes - length entries.1) bytes) Truncated entries.1 >>= λ digest. Ok (loaded_of header entries.0 digest)

abbrev after_header : List ℕ → Header × List ℕ → Result Loaded FileFault
after_header bytes header = entries_at (size_of header.0.level) Truncated header.1 >>= λ entries. after_entries bytes header.0 entries

pub seal_fails : (file : Unsealed) (bytes : List ℕ) (known : Option (List ℕ)) (fault : FileFault) → IsUnsealed file bytes known → Seals {X = ⊤} file (Err fault) → Fails fault (file_in bytes)
seal_fails file bytes known fault is wrong = (seal_stops file bytes known fault is wrong).0

behind_other : (b : Behind) → fault_behind b ≡ Some reads.Memory → ⊥
behind_other behinds.Nothing e = absurd cc
behind_other behinds.Byte e = absurd cc
behind_other behinds.Fault e = absurd cc

-- to compare a digest takes no memory
pub seal_other : (file : Unsealed) (fault : FileFault) → Seals {X = ⊤} file (Err fault) → fault ≢ reads.Memory
seal_other file fault (inl wrong) is = absurd cc
seal_other file fault (inr after) is = behind_other file.behind (after.1 ∙ ap (λ (f : FileFault). Some f) is)

-- the same of a file that is to be next
pub seal_refused : (file : Unsealed) (bytes : List ℕ) (known : Option (List ℕ)) (shelf : List Image) (below : List ℕ) (level : ℕ) (fault : FileFault) → level ≡ length shelf → IsUnsealed file bytes known
    → Seals {X = ⊤} file (Err fault) → IsFileFault shelf below bytes (File level fault)
seal_refused file bytes known shelf below level fault is found wrong = (is, seal_fails file bytes known fault found wrong, seal_other file fault wrong)

-- The header of a file that is read, and its first entries, are right.
pub begins_whole : (bytes : List ℕ) (found : Loaded) → file_in bytes ≡ Ok found → BeginsRight bytes
unfolding file_in
begins_whole bytes found is =
    let a = bind_ok (header_at Truncated bytes) (λ header. after_header bytes header) found is in
    let b = bind_ok (entries_at (size_of a.0.0.level) Truncated a.0.1) (λ entries. after_entries bytes a.0.0 entries) found a.2 in
    let n = size_of a.0.0.level in
    (a.0.0, a.0.1, a.1, some_right [] n n (min n 680) Truncated a.0.1 n a.0.1 (omega arith) (omega arith) (omega arith) (nothing_yet n Truncated a.0.1) (ok_from (entries_at n Truncated a.0.1) b.0 b.1))

pub begins_sealed : (file : Unsealed) (bytes : List ℕ) (known : Option (List ℕ)) → IsUnsealed file bytes known → Seals {X = ⊤} file (Ok tt) → BeginsRight bytes
begins_sealed file bytes known found sealed = begins_whole bytes file.loaded (image_read (Some bytes) known file found sealed)

-- the same of one that is read, whatever comes behind its entries
pub begins_read : (file : Unsealed) (bytes : List ℕ) (known : Option (List ℕ)) → IsUnsealed file bytes known → BeginsRight bytes
begins_read file bytes known is =
    let found = file.loaded in
    let h : Header = record { version = found.version; level = found.image.level; limit = found.image.limit; below = found.below } in
    let fits : FitsHeader h = record { version = is.has.known; level = is.has.low; limit = is.has.limit; below = is.has.whole; bytes = is.has.bytes } in
    let es = flat_map entry_text found.image.entries in
    let n = size_of found.image.level in
    let header : header_at Truncated (body_text found.version found.image found.below ++ is.left) ≡ Ok (h, es ++ is.left)
    = ap (header_at Truncated) (append_assoc (header_text found.version found.image.level found.image.limit found.below) es is.left)
    ∙ header_again h Truncated (es ++ is.left) fits (size_small found.image.level (low_in found.version found.image.level is.has.low)) in
    let entries : entries_at n Truncated (es ++ is.left) ≡ Ok (found.image.entries, is.left)
    = subst (λ (m : ℕ). entries_at m Truncated (es ++ is.left) ≡ Ok (found.image.entries, is.left)) is.has.sized (entries_again found.image.entries Truncated is.left is.has.entries) in
    subst BeginsRight (sym is.parts)
    (h, es ++ is.left, header, some_right [] n n (min n 680) Truncated (es ++ is.left) n (es ++ is.left) (omega arith) (omega arith) (omega arith) (nothing_yet n Truncated (es ++ is.left)) (ok_from (entries_at n Truncated (es ++ is.left)) (found.image.entries, is.left) entries))

-- ---- a file that is misplaced

two_of : (version : ℕ) → (version ≡ 1) ⊎ (version ≡ 2) → 2 ≤ version → version ≡ 2
two_of version (inl one) late = absurd (omega (arith, one, late))
two_of version (inr two) late = two

one_of : (version : ℕ) → (version ≡ 1) ⊎ (version ≡ 2) → version < 2 → version ≡ 1
one_of version (inl one) early = one
one_of version (inr two) early = absurd (omega (arith, two, early))

pub none_older : (version : ℕ) → (version ≡ 1) ⊎ (version ≡ 2) → version < 1 → ⊥
none_older version (inl one) early = omega (arith, one, early)
none_older version (inr two) early = omega (arith, two, early)

pub sealed_file : (file : Unsealed) (bytes : List ℕ) (known : Option (List ℕ)) → IsUnsealed file bytes known → Seals {X = ⊤} file (Ok tt) → IsFileOf bytes file.loaded
sealed_file file bytes known is sealed = (sealed_is file bytes known is sealed.0 sealed.1).1

-- it is not the shelf's next
pub misplaced_fault : (shelf : List Image) (below : List ℕ) (file : Unsealed) (level : ℕ) (fault : FolderFault) (bytes : List ℕ) (known : Option (List ℕ)) → level ≡ length shelf → IsUnsealed file bytes known
    → IsMisplaced level 2 below file fault → IsFileFault shelf below bytes fault
misplaced_fault shelf below file level (Below number) bytes known here is (same, sealed, late, another) =
    (same ∙ here, record { loaded = file.loaded; file = sealed_file file bytes known is sealed; of_version = two_of file.loaded.version is.has.known late; another = another })
misplaced_fault shelf below file level (File number fault) bytes known here is (same, wrong) = seal_refused file bytes known shelf below number fault (same ∙ here) is wrong
misplaced_fault shelf below file level (Open number) bytes known here is never = absurd never
misplaced_fault shelf below file level (Verify number fault) bytes known here is never = absurd never
misplaced_fault shelf below file level Memory bytes known here is never = absurd never
misplaced_fault shelf below file level (Occupied number) bytes known here is never = absurd never
misplaced_fault shelf below file level (Old number) bytes known here is (same, sealed, early) =
    (same ∙ here, record { loaded = file.loaded; file = sealed_file file bytes known is sealed; of_version = one_of file.loaded.version is.has.known early })

-- the refusal tells that
pub misplaced_refusal : (lacks : Unsealed → Type 0) (levels level oldest : ℕ) (below : List ℕ) (file : Unsealed) (fault : FolderFault) → level ≡ levels → IsMisplaced level oldest below file fault
    → IsRefusal levels (IsToldOf lacks (Ok file)) fault
misplaced_refusal lacks levels level oldest below file (Below number) here is = record { named = is.0 ∙ here; of_file = tt; told = tt }
misplaced_refusal lacks levels level oldest below file (File number fault) here is = record { named = (is.0 ∙ here, seal_other file fault is.1); of_file = tt; told = is.1 }
misplaced_refusal lacks levels level oldest below file (Open number) here never = absurd never
misplaced_refusal lacks levels level oldest below file (Verify number fault) here never = absurd never
misplaced_refusal lacks levels level oldest below file Memory here never = absurd never
misplaced_refusal lacks levels level oldest below file (Occupied number) here never = absurd never
misplaced_refusal lacks levels level oldest below file (Old number) here is = record { named = is.0 ∙ here; of_file = tt; told = tt }

-- ---- faults of the reader

tells_read : (fault e : FileFault) (level old new : ℕ) → fault ≡ e → Tells e old new → TellsReader (File level fault) old new
tells_read reads.Read e level old new is tells = subst (λ (f : FileFault). Tells f old new) (sym is) tells
tells_read reads.Truncated e level old new is tells = tt
tells_read reads.Magic e level old new is tells = tt
tells_read reads.Version e level old new is tells = tt
tells_read reads.LevelOutOfRange e level old new is tells = tt
tells_read reads.Count e level old new is tells = tt
tells_read reads.EntryForm e level old new is tells = tt
tells_read reads.Digest e level old new is tells = tt
tells_read reads.Trailing e level old new is tells = tt
tells_read reads.Memory e level old new is tells = tt
tells_read reads.Write e level old new is tells = tt

tells_fault : (b : Behind) (fault : FileFault) (level old new : ℕ) → fault_behind b ≡ Some fault → TellsBehind b old new → TellsReader (File level fault) old new
tells_fault behinds.Nothing fault level old new is tells = absurd cc
tells_fault behinds.Byte fault level old new is tells = let e : reads.Trailing ≡ fault = cc in subst (λ (f : FileFault). TellsReader (File level f) old new) e tt
tells_fault behinds.Fault fault level old new is tells = let e : reads.Read ≡ fault = cc in subst (λ (f : FileFault). TellsReader (File level f) old new) e tells.0

tells_seal : (file : Unsealed) (fault : FileFault) (level old new : ℕ) → Seals {X = ⊤} file (Err fault) → TellsBehind file.behind old new → TellsReader (File level fault) old new
tells_seal file fault level old new (inl wrong) tells = subst (λ (f : FileFault). TellsReader (File level f) old new) (sym wrong.1) tt
tells_seal file fault level old new (inr after) tells = tells_fault file.behind fault level old new after.1 tells

-- 68 tells of a fault of the reader.
pub tells_reader : (lacks : Unsealed → Type 0) (read : Result Unsealed FileFault) (fault : FolderFault) (old new : ℕ) → IsToldOf lacks read fault
    → MatchResult read (λ file. TellsBehind file.behind old new) (λ e. Tells e old new) → TellsReader fault old new
tells_reader lacks read (Below level) old new told counted = tt
tells_reader lacks (Ok file) (File level fault) old new told counted = tells_seal file fault level old new told counted
tells_reader lacks (Err e) (File level fault) old new told counted = tells_read fault e level old new told counted
tells_reader lacks read (Open level) old new told counted = tt
tells_reader lacks read (Verify level fault) old new told counted = tt
tells_reader lacks read Memory old new told counted = tt
tells_reader lacks read (Occupied level) old new told counted = tt
tells_reader lacks read (Old level) old new told counted = tt

-- so a refusal tells of it
pub refusal_tells : {T : Type 0} (levels : ℕ) (lacks : Unsealed → Type 0) (read : Result Unsealed FileFault) (result : Result T FolderFault) (old new : ℕ) → IfErr result (IsRefusal levels (IsToldOf lacks read))
    → MatchResult read (λ file. TellsBehind file.behind old new) (λ e. Tells e old new) → IfErr result (IsRefusal levels (λ fault. TellsReader fault old new))
refusal_tells levels lacks read (Ok x) old new is counted = tt
refusal_tells levels lacks read (Err fault) old new is counted = record { named = is.named; of_file = is.of_file; told = tells_reader lacks read fault old new is.told counted }

-- What holds of all bytes that were read so holds of those that were there, if they are known.
pub read_as : (a known : Option (List ℕ)) (read : Result Unsealed FileFault) (P : List ℕ → Type 0) → IfSome a (λ bytes. IfOk read (λ file. IsUnsealed file bytes known))
    → IfSome a (λ bytes. IfErr read (Stops bytes known)) → ((bytes : List ℕ) (after : Option (List ℕ)) → IsReadAs read bytes after → P bytes) → IfSome a P
read_as None known read P found fault then = tt
read_as (Some bytes) known (Ok file) P found fault then = then bytes known found
read_as (Some bytes) known (Err e) P found fault then = then bytes known fault

-- the fault of a file is that of its level
pub fault_at : (lacked : Type 0) (names : ℕ → Option (List ℕ)) (level : ℕ) (shelf : List Image) (below : List ℕ) (fault : FolderFault) → IsOfFile fault → IsSomeAnd (names level) (λ bytes. IsFileFault shelf below bytes fault)
    → IsFaultAt lacked names level shelf below fault
fault_at lacked names level shelf below (Open n) of_file here = absurd of_file
fault_at lacked names level shelf below Memory of_file here = inr here
fault_at lacked names level shelf below (Below n) of_file here = here
fault_at lacked names level shelf below (File n fault) of_file here = here
fault_at lacked names level shelf below (Verify n fault) of_file here = here
fault_at lacked names level shelf below (Occupied n) of_file here = here
fault_at lacked names level shelf below (Old n) of_file here = here

pub fault_to : (lacked : Type 0) (most : ℕ) (names : ℕ → Option (List ℕ)) (level : ℕ) (shelf : List Image) (below : List ℕ) (fault : FolderFault) → level ≤ most → HoldLevels names level shelf below
    → IsFaultAt lacked names level shelf below fault → IsFaultTo lacked most names fault
fault_to lacked most names level shelf below fault low held here = record { level = level; low = low; shelf = shelf; below = below; right = held; here = here }

-- The header of a file that is one, and its first entries, are right.
pub begins_file : (bytes : List ℕ) (loaded : Loaded) → IsFileOf bytes loaded → BeginsRight bytes
begins_file bytes loaded is =
    let small = size_small loaded.image.level (low_in loaded.version loaded.image.level is.has.low) in
    begins_whole bytes (found_of loaded.version loaded.image loaded.below) (ap file_in is.text ∙ file_again loaded.version loaded.image loaded.below is.has small)

-- the same of one that was put on a shelf
pub begins_next : (shelf : List Image) (below bytes : List ℕ) (after : List Image) (digest : List ℕ) → IsNextFile shelf below bytes after digest → BeginsRight bytes
begins_next shelf below bytes after digest next = begins_file bytes next.loaded next.file
