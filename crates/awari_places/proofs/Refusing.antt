-- Which refusals are due, by what was read and by what a folder says that did not change.
use Rattle.std.proofs.Common.{Bool, true, false, replicate, ◌≡◌, ℕ, ◌+◌, ◌<◌, ◌≤◌, List, drop, length, sum, take, nat_lt, Option, Some, None, Result, Ok, Err, inl, inr, refl, sym, ap, subst, ◌∙◌, arith, if◌then◌else◌}
use Rattle.std.proofs.Math.Seq.{take-length}
use Rattle.std.specs.Prelude.{IfErr, IsErr}
use Rattle.std.proofs.lemmas.Bool.Decides.{nat_tests}
use Rattle.awari_board.specs.Rules.{IsBoard}
use Rattle.awari_file.specs.FileText.{entry_place}
use Rattle.awari_file.specs.Reading.{◌>>=◌, entry_of, field}
use Rattle.awari_file.specs.declared.faults.FileFault.{FileFault}
use Rattle.awari_file.specs.declared.faults.FileFault.TheVariants as faults
use Rattle.awari_folder.specs.Contents.{Reads, Stands}
use Rattle.awari_folder.specs.declared.faults.FolderFault.{FolderFault}
use Rattle.awari_folder.specs.declared.faults.FolderFault.TheVariants.{File, Verify, Memory}
use Rattle.awari_rank.specs.Rank.{rank_of}
use Rattle.awari_table.specs.Certificate.{DistancesAreLeast}
use Rattle.awari_table.specs.Images.{table_of}
use Rattle.awari_verify.specs.FirstFailure.{BreaksFirst}
use Rattle.awari_verify.specs.declared.rules.Rule.{Rule}
use Rattle.awari_verify.specs.declared.verdicts.VerifyFault.TheVariants.{Refused}
use Rattle.awari_table.specs.declared.images.Entry.{Entry}
use Rattle.awari_table.specs.declared.images.Image.{Image}
use Rattle.awari_folder.specs.State.{State}
use Rattle.awari_play.specs.Saying.{IsRefusedIn}
use Rattle.awari_play.specs.Unplayed.{IsUnlined}
use Rattle.awari_play.specs.declared.lookups.Unplayed.{Unplayed}
use Rattle.awari_play.specs.declared.lookups.Unplayed.TheVariants as unplayed
use Rattle.awari_places.specs.Asked.{by_files, misjudged_by, stands_in}
use Rattle.awari_places.specs.Faults.{IsEntryFault, IsFileFaultAt, IsJudgeFault, IsLookFault, IsPlaceFault, IsPliesFault, IsRefusedAt, unplayed_fault, rule_due}
use Rattle.awari_places.specs.declared.files.Files.{Files}
use Rattle.awari_places.specs.Places.{Says}
pub use Rattle.awari_places.specs.Lasting.{look_before, refused_before}

-- ---- what was read at a place

pub read_gone : (known : Option (Option (List ℕ))) (place : ℕ) (got : List ℕ) → Reads known place got None → IsPlaceFault place known faults.Read
read_gone None place got reads = tt
read_gone (Some None) place got reads = refl
read_gone (Some (Some bytes)) place got reads = absurd (let no = reads.0 in cc)

pub read_short : (known : Option (Option (List ℕ))) (place size : ℕ) (got : List ℕ) → Reads known place got (Some size) → size < place + 6 → IsPlaceFault place known faults.Truncated
read_short None place size got reads short = tt
read_short (Some None) place size got reads short = absurd cc
read_short (Some (Some bytes)) place size got reads short = let same : size ≡ length bytes = (let is = reads.0 in cc) in omega (arith, same, short)

abbrev with_rest : List ℕ → Entry → Result (Entry × List ℕ) FileFault
with_rest rest e = Ok (e, rest)

-- what is no entry is none with whatever follows
is_err : (r : Result Entry FileFault) (rest : List ℕ) (e : FileFault) → (r >>= with_rest rest) ≡ Err e → IsErr r
is_err (Ok y) rest e h = absurd cc
is_err (Err f) rest e h = refl

pub no_entry_in : (bytes : List ℕ) (e : FileFault) → 6 ≤ length bytes → field 6 entry_of faults.Truncated bytes ≡ Err e → IsErr (entry_of (take 6 bytes))
no_entry_in bytes e long h =
    let all : nat_lt (length bytes) 6 ≡ false = grind (arith, nat_tests) in
    let judged : Bool → Result (Entry × List ℕ) FileFault = λ b. if b then Err faults.Truncated else (entry_of (take 6 bytes) >>= with_rest (drop 6 bytes)) in
    is_err (entry_of (take 6 bytes)) (drop 6 bytes) e (sym (ap judged all) ∙ h)

pub read_no_entry : (known : Option (Option (List ℕ))) (place size : ℕ) (got : List ℕ) (e : FileFault) → Reads known place got (Some size) → place + 6 ≤ size → length got ≡ 6
    → field 6 entry_of faults.Truncated got ≡ Err e → IsPlaceFault place known faults.EntryForm
read_no_entry None place size got e reads long six fails = tt
read_no_entry (Some None) place size got e reads long six fails = absurd cc
read_no_entry (Some (Some bytes)) place size got e reads long six fails =
    let same : size ≡ length bytes = (let is = reads.0 in cc) in
    let is : got ≡ take 6 (drop place bytes) = reads.1 (omega (arith, same, long, six)) ∙ ap (λ (n : ℕ). take n (drop place bytes)) six in
    let all : take 6 got ≡ got = ap (λ (n : ℕ). take n got) (sym six) ∙ take-length got in
    (omega (arith, same, long), subst (λ (b : List ℕ). IsErr (entry_of b)) (all ∙ is) (no_entry_in got e (omega (arith, six)) fails))

pub entry_fault : {T : Type 0} (r : Result T FolderFault) (level rank : ℕ) (known : Option (Option (List ℕ))) (place : ℕ) → place ≡ entry_place rank
    → IfErr r (IsFileFaultAt level place known) → IfErr r (IsEntryFault level rank known)
entry_fault (Ok x) level rank known place at is = tt
entry_fault (Err f) level rank known place at is =
    let here : IsEntryFault level rank known (File level is.inner) = (refl, subst (λ (k : ℕ). IsPlaceFault k known is.inner) at is.due) in subst (IsEntryFault level rank known) (sym is.told) here

pub refused_at : {T : Type 0} (r : Result T FolderFault) (stands : Stands) (board : List ℕ) (level rank : ℕ) → IsBoard board → level ≡ sum board → rank ≡ rank_of board
    → IfErr r (IsEntryFault level rank (stands level)) → IfErr r (IsRefusedAt stands board)
refused_at (Ok x) stands board level rank whole stones ranked is = tt
refused_at (Err f) stands board level rank whole stones ranked is =
    let there : IsEntryFault (sum board) rank (stands (sum board)) f = subst (λ (n : ℕ). IsEntryFault n rank (stands n) f) stones is in
    record { is_board = whole; due = subst (λ (k : ℕ). IsEntryFault (sum board) k (stands (sum board)) f) ranked there }

-- ---- judged boards

pub breach_at : (stands : Stands) (levels : ℕ) (board : List ℕ) (rule : Rule) (fault : FolderFault) → IsBoard board → sum board < levels → fault ≡ Verify (sum board) (Refused (rank_of board) rule)
    → ((images : List Image) → Says stands levels images → BreaksFirst DistancesAreLeast (table_of images) board rule) → IsJudgeFault levels stands fault
breach_at stands levels board rule fault whole low told breaks = inr (record { board = board; rule = rule; is_board = whole; known = low; told = told; breaks = breaks })

-- ---- plays that are not told

abbrev no_stones : List ℕ
no_stones = replicate 12 0

-- want of memory, which may come at any board
memory_at : (stands : Stands) (levels : ℕ) → 0 < levels → IsLookFault levels stands Memory
memory_at stands levels some = record { board = no_stones; known = some; here = record { is_board = record { pits = refl; stones = omega arith }; due = tt } }

look_in : {F : Type 0} (state : F → State) (files : Files F) (fault : FolderFault) → IsRefusedIn (by_files state) files fault → IsLookFault files.levels (stands_in state files) fault
look_in state files fault is = record { board = is.board; known = is.known; here = is.here }

-- why the one or the other line is not told
pub plies_fault : {F : Type 0} (state : F → State) (files : Files F) (longest : Bool) (fault : Unplayed FolderFault) → 0 < files.levels
    → IsUnlined longest (by_files state) (misjudged_by state) files fault → IsPliesFault longest files.levels (stands_in state files) (unplayed_fault (rule_due longest) fault)
plies_fault state files true unplayed.Memory some is = inl (inl (memory_at _ _ some))
plies_fault state files true (unplayed.Refused fault) some (inl is) = inl (inl (look_in state files fault is))
plies_fault state files true (unplayed.Refused fault) some (inr is) = inl is
plies_fault state files true (unplayed.Illegal b) some is = inr (record { board = b; known = is.known; told = refl; unsaid = is.unsaid })
plies_fault state files false unplayed.Memory some is = inl (memory_at _ _ some)
plies_fault state files false (unplayed.Refused fault) some is = inl (look_in state files fault is)
plies_fault state files false (unplayed.Illegal b) some is = inr (record { board = b; is_board = is.is_board; known = is.known; told = refl; illegal = is.illegal })
