-- Where an entry lies in a file.
use Rattle.std.proofs.Common.{◌≡◌, ℕ, zero, suc, ◌+◌, ◌*◌, ◌<◌, List, [], ◌∷◌, ◌++◌, length, get_or, take, drop, refl, sym, ap, ◌∙◌, append_assoc, arith}
use Rattle.std.specs.List.{flat_map, AllByRecursion}
use Rattle.std.specs.Int.{w8, w32, cast_signed, from_be_bytes}
use Rattle.std.proofs.lemmas.Int.{to_z-of_z, ints}
use Rattle.std.proofs.lemmas.Nat.{from_be_bytes-to_be_bytes_4}
use Rattle.awari_exports.specs.declared.answers.PlainEntry.{PlainEntry}
use Rattle.awari_exports.specs.Told.{told_entry}
use Rattle.std.proofs.lemmas.List.{take_at, length-append}
use Rattle.std.proofs.lemmas.List.Concat.{flat_map-cons}
use Rattle.std.proofs.Math.Seq.{drop-append-add}
use Rattle.sha2.specs.Sha256.{sha256}
use Rattle.awari_rank.specs.Rank.{size_of}
use Rattle.awari_table.specs.declared.images.Entry.{Entry}
use Rattle.awari_table.specs.declared.images.Image.{Image}
use Rattle.awari_table.specs.Images.{no_entry}
use Rattle.awari_table.specs.Spelling.{IsEntry}
use Rattle.awari_file.specs.FileText.{HasFile, plan_byte, entry_place, entry_text, header_text, body_text, file_text}

pub entries_len : (es : List Entry) → length (flat_map entry_text es) ≡ 6 * length es
entries_len [] = refl
entries_len (e ∷ es) = omega (arith, ap (λ (x : List ℕ). length x) (flat_map-cons entry_text e es), length-append (entry_text e) (flat_map entry_text es), entries_len es)

pub entry_there : (es : List Entry) (k : ℕ) (rest : List ℕ) → k < length es → take 6 (drop (6 * k) (flat_map entry_text es ++ rest)) ≡ entry_text (get_or es k no_entry)
entry_there [] k rest low = absurd (omega (arith, low))
entry_there (e ∷ es) zero rest low = take_at (entry_text e) (flat_map entry_text es ++ rest) 6 refl
entry_there (e ∷ es) (suc k) rest low =
    let more : 6 * suc k ≡ 6 + 6 * k = omega arith in
    ap (λ (n : ℕ). take 6 (drop n (flat_map entry_text (e ∷ es) ++ rest))) more ∙ ap (λ (l : List ℕ). take 6 l) (drop-append-add (entry_text e) (flat_map entry_text es ++ rest) (6 * k)) ∙ entry_there es k rest (omega (arith, low))

pub header_len : (version level limit : ℕ) (below : List ℕ) → length below ≡ 32 → length (header_text version level limit below) ≡ 52
header_len version level limit below whole = omega (arith, whole)

pub entry_in_file : (version : ℕ) (image : Image) (below : List ℕ) (k : ℕ) → HasFile version image below → k < length image.entries
    → take 6 (drop (entry_place k) (file_text version image below)) ≡ entry_text (get_or image.entries k no_entry)
entry_in_file version image below k has low =
    let header = header_text version image.level image.limit below in let entries = flat_map entry_text image.entries in let digest = sha256 (body_text version image below) in
    let long : length header ≡ 52 = header_len version image.level image.limit below has.whole in
    ap (λ (l : List ℕ). take 6 (drop (entry_place k) l)) (append_assoc header entries digest) ∙ ap (λ (n : ℕ). take 6 (drop (n + 6 * k) (header ++ (entries ++ digest)))) (sym long)
    ∙ ap (λ (l : List ℕ). take 6 l) (drop-append-add header (entries ++ digest) (6 * k)) ∙ entry_there image.entries k digest low

-- what is told of the bytes of an entry is told of the entry
pub told_again : (e : Entry) (m : PlainEntry) (bytes : List ℕ) → IsEntry e → bytes ≡ entry_text e
    → m.value ≡ cast_signed w8 (get_or bytes 0 0) → m.plan ≡ get_or bytes 1 0 → m.distance ≡ from_be_bytes w32 (get_or bytes 2 0 ∷ get_or bytes 3 0 ∷ get_or bytes 4 0 ∷ get_or bytes 5 0 ∷ [])
    → m ≡ told_entry e
told_again e m bytes fits text v p d =
    let low = fits.low in let high = fits.high in
    let value : m.value ≡ e.value = v ∙ ap (λ (l : List ℕ). cast_signed w8 (get_or l 0 0)) text ∙ to_z-of_z w8 e.value (omega (arith, ints, low, high)) in
    let plan : m.plan ≡ plan_byte e.plan = p ∙ ap (λ (l : List ℕ). get_or l 1 0) text in
    let distance : m.distance ≡ e.dist = d ∙ ap (λ (l : List ℕ). from_be_bytes w32 (get_or l 2 0 ∷ get_or l 3 0 ∷ get_or l 4 0 ∷ get_or l 5 0 ∷ [])) text ∙ from_be_bytes-to_be_bytes_4 e.dist fits.dist in
    λ i. record { value = value i; plan = plan i; distance = distance i }

-- an entry of those that all keep P keeps it
pub entry_fits : (es : List Entry) (k : ℕ) → AllByRecursion IsEntry es → k < length es → IsEntry (get_or es k no_entry)
entry_fits [] k all low = absurd (omega (arith, low))
entry_fits (e ∷ es) zero all low = all.0
entry_fits (e ∷ es) (suc k) all low = entry_fits es k all.1 (omega (arith, low))

pub told_in_file : (version : ℕ) (image : Image) (below file bytes : List ℕ) (k : ℕ) (m : PlainEntry) → HasFile version image below → file ≡ file_text version image below → k < size_of image.level
    → bytes ≡ take 6 (drop (entry_place k) file)
    → m.value ≡ cast_signed w8 (get_or bytes 0 0) → m.plan ≡ get_or bytes 1 0 → m.distance ≡ from_be_bytes w32 (get_or bytes 2 0 ∷ get_or bytes 3 0 ∷ get_or bytes 4 0 ∷ get_or bytes 5 0 ∷ [])
    → m ≡ told_entry (get_or image.entries k no_entry)
told_in_file version image below file bytes k m has text low six v p d =
    let inside : k < length image.entries = omega (arith, low, has.sized) in
    told_again (get_or image.entries k no_entry) m bytes (entry_fits image.entries k has.entries inside)
    (six ∙ ap (λ (l : List ℕ). take 6 (drop (entry_place k) l)) text ∙ entry_in_file version image below k has inside) v p d
