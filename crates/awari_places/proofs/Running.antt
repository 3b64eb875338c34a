-- Entries that were read many at once are those that the files say.
use Rattle.std.proofs.Common.{◌≡◌, ℕ, ◌+◌, ◌-◌, ◌*◌, ◌<◌, ◌≤◌, List, drop, get_or, length, slice_get, take, Option, Some, None, refl, sym, ap, subst, ◌∙◌, arith}
use Rattle.std.specs.Prelude.{IsErr, IsSomeAnd}
use Rattle.std.proofs.lemmas.List.{drop-drop, drop-take, take-take}
use Rattle.std.proofs.lemmas.List.FromFn.{length-map-range_with_len}
use Rattle.std.proofs.lemmas.Option.{slice_get-get_or}
use Rattle.awari_rank.specs.Rank.{size_of}
use Rattle.awari_table.specs.Images.{no_entry}
use Rattle.awari_table.specs.declared.images.Entry.{Entry}
use Rattle.awari_table.specs.declared.images.Image.{Image}
use Rattle.awari_file.specs.FileText.{entry_place}
use Rattle.awari_file.specs.Reading.{entry_of}
use Rattle.awari_file.specs.declared.faults.FileFault.{FileFault}
use Rattle.awari_file.specs.declared.faults.FileFault.TheVariants as faults
use Rattle.awari_folder.specs.Contents.{Reads, Same, Stands}
use Rattle.awari_folder.specs.declared.faults.FolderFault.{FolderFault}
use Rattle.awari_folder.specs.declared.faults.FolderFault.TheVariants.{File}
use Rattle.awari_places.specs.Faults.{IsEntryFault, IsFaultFrom, IsPlaceFault}
use Rattle.awari_places.specs.Places.{Says, entry_in, entry_or_none, image_in}
use Rattle.awari_places.specs.Runs.{AreEntriesOf, IsEntryAt, IsFormFault, IsKept, IsLengthFault, IsRunOf}
use Rattle.awari_places.specs.declared.kept.Run.{Run}
use Rattle.awari_places.proofs.Reading.{entry_there, image_got}
use Rattle.awari_places.proofs.Refusing.{read_gone}

abbrev some_image : Image → Option Image
some_image i = Some i

abbrev some_entry : Entry → Option Entry
some_entry e = Some e

-- the six bytes of the k-th of n entries that were read from a place on
six_of : (n k place : ℕ) (bytes : List ℕ) → k < n → take 6 (drop (6 * k) (take (6 * n) (drop place bytes))) ≡ take 6 (drop (place + 6 * k) bytes)
six_of n k place bytes lt =
    let parts : 6 * n ≡ 6 * k + (6 * n - 6 * k) = omega (arith, lt) in
    ap (λ (m : ℕ). take 6 (drop (6 * k) (take m (drop place bytes)))) parts
    ∙ ap (take 6) (drop-take (6 * k) (6 * n - 6 * k) (drop place bytes))
    ∙ take-take 6 (6 * n - 6 * k) (drop (6 * k) (drop place bytes)) (omega (arith, lt))
    ∙ ap (take 6) (drop-drop (6 * k) place bytes)

sized : (level : ℕ) (bytes : List ℕ) → length (image_in level (Some bytes)).entries ≡ size_of level
unfolding image_in
sized level bytes = length-map-range_with_len (entry_in bytes) 0 (size_of level)

-- the entry at a rank
pub is_entry_at : (stands : Stands) (levels level rank : ℕ) (images : List Image) (says : Says stands levels images) (bytes : List ℕ) (e : Entry) → level < levels
    → says.names level ≡ Some bytes → rank < size_of level → e ≡ entry_in bytes rank → IsEntryAt images level rank e
is_entry_at stands levels level rank images says bytes e low named lt is =
    let got : slice_get images level ≡ Some (image_in level (Some bytes)) = image_got stands levels level images says low ∙ ap (λ (o : Option (List ℕ)). some_image (image_in level o)) named in
    let inside : rank < length (image_in level (Some bytes)).entries = omega (arith, lt, sized level bytes) in
    let entry : slice_get (image_in level (Some bytes)).entries rank ≡ Some e =
    slice_get-get_or (image_in level (Some bytes)).entries rank no_entry inside ∙ ap some_entry (entry_there level rank bytes lt ∙ sym is) in
    subst (λ (o : Option Image). IsSomeAnd o (λ image. slice_get image.entries rank ≡ Some e)) (sym got) entry

-- the entry of the k-th place of what was read
entry_read : (n k rank : ℕ) (bytes room : List ℕ) (e : Entry) → length room ≡ 6 * n → k < n → room ≡ take (length room) (drop (entry_place rank) bytes) → e ≡ entry_or_none (entry_of (take 6 (drop (6 * k) room)))
    → e ≡ entry_in bytes (rank + k)
unfolding entry_in
entry_read n k rank bytes room e long lt there is =
    let far : entry_place rank + 6 * k ≡ entry_place (rank + k) = omega arith in
    is
    ∙ ap (λ (l : List ℕ). entry_or_none (entry_of (take 6 (drop (6 * k) l)))) (there ∙ ap (λ (m : ℕ). take m (drop (entry_place rank) bytes)) long)
    ∙ ap (λ (l : List ℕ). entry_or_none (entry_of l)) (six_of n k (entry_place rank) bytes lt)
    ∙ ap (λ (m : ℕ). entry_or_none (entry_of (take 6 (drop m bytes)))) far

-- this many bytes were there, so these are the file's
read_whole : (name : Option (List ℕ)) (place : ℕ) (room : List ℕ) (found : Option ℕ) → Reads (Some name) place room found → IsSomeAnd found (λ n. place + length room ≤ n)
    → (bytes : List ℕ) × (name ≡ Some bytes) × (room ≡ take (length room) (drop place bytes))
read_whole name place room None reads long = absurd long
read_whole None place room (Some size) reads long = absurd cc
read_whole (Some bytes) place room (Some size) reads long =
    let same : size ≡ length bytes = (let s = reads.0 in cc) in
    (bytes, refl, reads.1 (omega (arith, same, long)))

-- what is read of a level's file from a rank on, up to its last board at most
pub run_said : (stands : Stands) (levels level rank n : ℕ) (images : List Image) (room : List ℕ) (found : Option ℕ) (run : Run) → Says stands levels images → level < levels
    → Reads (stands level) (entry_place rank) room found → IsSomeAnd found (λ size. entry_place rank + length room ≤ size) → length room ≡ 6 * n → rank + n ≤ size_of level → run.first ≡ rank → AreEntriesOf room run
    → IsRunOf images level run
run_said stands levels level rank n images room found run says low reads whole long few first are k lt =
    let (bytes, named, there) = read_whole (says.names level) (entry_place rank) room found (subst (λ (s : Option (Option (List ℕ))). Reads s (entry_place rank) room found) (says.known level) reads) whole in
    let below : k < n = omega (arith, lt, are.few, long) in
    let here : rank + k < size_of level = omega (arith, below, few) in
    let e = get_or run.entries k no_entry in
    subst (λ (r : ℕ). IsEntryAt images level (r + k) e) (sym first)
    (is_entry_at stands levels level (rank + k) images says bytes e low named here (entry_read n k rank bytes room e long below there (are.each k lt)))

-- an entry that the run has
pub kept_said : (images : List Image) (level rank : ℕ) (run : Run) (e : Entry) → IsRunOf images level run → IsKept run rank e → IsEntryAt images level rank e
kept_said images level rank run e is (k, inside, same, entry) =
    subst (λ (x : Entry). IsEntryAt images level rank x) (sym entry) (subst (λ (r : ℕ). IsEntryAt images level r (get_or run.entries k no_entry)) same (is k inside))

-- a run of no entry
pub run-none : (images : List Image) (level : ℕ) (run : Run) → run.count ≡ 0 → IsRunOf images level run
run-none images level run none k lt = absurd (omega (arith, lt, none))

-- ---- why a run is not filled

-- memory ran out, or the folder refused
pub fault_here : (level rank : ℕ) (known : Option (Option (List ℕ))) (fault : FolderFault) → rank < size_of level → IsEntryFault level rank known fault → IsFaultFrom level rank known fault
fault_here level rank known fault low is = record { at = rank; from = omega arith; there = low; due = is }

-- the file is gone, or ends before the last of n entries does
pub fault_length : (level rank n : ℕ) (known : Option (Option (List ℕ))) (room : List ℕ) (found : Option ℕ) (fault : FileFault) → 1 ≤ n → rank + n ≤ size_of level → Reads known (entry_place rank) room found
    → IsLengthFault found (entry_place rank + 6 * n) fault → IsFaultFrom level rank known (File level fault)
fault_length level rank n known room None fault some few reads is =
    record { at = rank; from = omega arith; there = omega (arith, some, few); due = (refl, subst (IsPlaceFault (entry_place rank) known) (sym is) (read_gone known (entry_place rank) room reads)) }
fault_length level rank n known room (Some size) fault some few reads is =
    let last : entry_place rank + 6 * n ≡ entry_place (rank + (n - 1)) + 6 = omega (arith, some) in
    let short : size < entry_place (rank + (n - 1)) + 6 = omega (arith, is.1, last) in
    record {
      at = rank + (n - 1);
      from = omega arith;
      there = omega (arith, some, few);
      due = (refl, subst (IsPlaceFault (entry_place (rank + (n - 1))) known) (sym is.0) (short_at known (entry_place rank) (entry_place (rank + (n - 1))) size room reads short));
    }
  where
    short_at : (known : Option (Option (List ℕ))) (place last size : ℕ) (got : List ℕ) → Reads known place got (Some size) → size < last + 6 → IsPlaceFault last known faults.Truncated
    short_at None place last size got reads short = tt
    short_at (Some None) place last size got reads short = absurd cc
    short_at (Some (Some bytes)) place last size got reads short = let same : size ≡ length bytes = (let is = reads.0 in cc) in omega (arith, same, short)

-- six of the bytes that were read are no entry
pub fault_form : (level rank n : ℕ) (known : Option (Option (List ℕ))) (room : List ℕ) (found : Option ℕ) (fault : FileFault) → length room ≡ 6 * n → rank + n ≤ size_of level → Reads known (entry_place rank) room found
    → IsSomeAnd found (λ size. entry_place rank + length room ≤ size) → IsFormFault room fault → IsFaultFrom level rank known (File level fault)
fault_form level rank n known room found fault long few reads whole is =
    let inside : is.place < n = omega (arith, is.inside, long) in
    record {
      at = rank + is.place;
      from = omega arith;
      there = omega (arith, inside, few);
      due = (refl, subst (IsPlaceFault (entry_place (rank + is.place)) known) (sym is.told) (none_at known found reads whole));
    }
  where
    none_at : (known : Option (Option (List ℕ))) (found : Option ℕ) → Reads known (entry_place rank) room found → IsSomeAnd found (λ size. entry_place rank + length room ≤ size)
        → IsPlaceFault (entry_place (rank + is.place)) known faults.EntryForm
    none_at known None reads whole = absurd whole
    none_at None (Some size) reads whole = tt
    none_at (Some None) (Some size) reads whole = absurd cc
    none_at (Some (Some bytes)) (Some size) reads whole =
        let inside : is.place < n = omega (arith, is.inside, long) in
        let same : size ≡ length bytes = (let at = reads.0 in cc) in
        let far : entry_place rank + 6 * is.place ≡ entry_place (rank + is.place) = omega arith in
        let there : room ≡ take (length room) (drop (entry_place rank) bytes) = reads.1 (omega (arith, same, whole)) in
        let six : take 6 (drop (6 * is.place) room) ≡ take 6 (drop (entry_place (rank + is.place)) bytes) =
        ap (λ (l : List ℕ). take 6 (drop (6 * is.place) l)) (there ∙ ap (λ (m : ℕ). take m (drop (entry_place rank) bytes)) long) ∙ six_of n is.place (entry_place rank) bytes inside
        ∙ ap (λ (m : ℕ). take 6 (drop m bytes)) far in
        (omega (arith, same, whole, long, inside, far), subst (λ (l : List ℕ). IsErr (entry_of l)) six is.none)

-- the same of names that have what they had, and of more ranks
pub fault_before : (level rank first : ℕ) (old new : Stands) (fault : FolderFault) → Same old new → first ≤ rank → IsFaultFrom level rank (new level) fault → IsFaultFrom level first (old level) fault
fault_before level rank first old new fault same low is =
    record { at = is.at; from = omega (arith, low, is.from); there = is.there; due = subst (λ (known : Option (Option (List ℕ))). IsEntryFault level is.at known fault) (same level) is.due }
