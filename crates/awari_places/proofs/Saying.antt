-- What right files say is what their shelf says.
use Rattle.std.proofs.Common.{◌≡◌, ℕ, zero, suc, ◌+◌, ◌*◌, ◌-◌, ◌<◌, List, [], ◌∷◌, ◌++◌, length, get_or, take, drop, Option, Some, None, Result, Ok, refl, sym, ap, subst, ◌∙◌, arith, inl, inr, map}
use Rattle.std.specs.List.{range_with_len}
use Rattle.std.specs.Prelude.{IsSomeAnd}
use Rattle.std.proofs.lemmas.Bool.{cases_lt}
use Rattle.std.proofs.lemmas.List.{drop-drop, length-append}
use Rattle.std.proofs.lemmas.List.FromFn.{fill_by_all, map-range_with_len_more}
use Rattle.awari_rank.specs.Rank.{size_of}
use Rattle.awari_table.specs.Images.{no_entry}
use Rattle.awari_table.specs.declared.images.Entry.{Entry}
use Rattle.awari_table.specs.declared.images.Image.{Image}
use Rattle.awari_file.specs.declared.contents.Header.{Header}
use Rattle.awari_file.specs.declared.contents.Loaded.{Loaded}
use Rattle.awari_file.specs.declared.faults.FileFault.{FileFault}
use Rattle.awari_file.specs.declared.faults.FileFault.TheVariants as faults
use Rattle.awari_file.specs.FileText.{IsFileOf, entry_place, found_of}
use Rattle.awari_file.specs.Reading.{◌>>=◌, header_at, entries_at, end_at, file_in, entry_of}
use Rattle.awari_file.proofs.FieldLaws.{bind_ok, ok_is}
use Rattle.awari_file.proofs.WholeSpell.{file_again, low_in, size_small}
use Rattle.awari_folder.specs.NextFile.{IsNextFile}
use Rattle.awari_folder.specs.Contents.{HoldLevels, IsStoredTo}
use Rattle.awari_places.specs.declared.opening.Opened.{Opened}
use Rattle.awari_places.specs.Opening.{AreFramed, IsFramed}
use Rattle.awari_places.specs.Places.{entry_in, entry_or_none, limit_in, limit_or_none, image_in, image_named, images_in}
use Rattle.awari_places.proofs.Lying.{entry_lies, behind_header}
use Rattle.awari_folder.proofs.Saved.{held_length}
use Rattle.awari_file.proofs.WholeLaws.{loaded_of}
use Rattle.awari_file.proofs.EntryLaws.{done}

-- the parts of a file that was read whole
record IsRead (bytes : List ℕ) (image : Image) : Type 0 where
  header : Header
  front : List ℕ
  back : List ℕ
  begins : header_at faults.Truncated bytes ≡ Ok (header, front)
  entries : entries_at (size_of image.level) faults.Truncated front ≡ Ok (image.entries, back)
  limit : header.limit ≡ image.limit

read_whole : (bytes : List ℕ) (found : Loaded) → file_in bytes ≡ Ok found → IsRead bytes found.image
unfolding file_in
read_whole bytes found read =
    let a = bind_ok (header_at faults.Truncated bytes)
    (λ header. entries_at (size_of header.0.level) faults.Truncated header.1 >>= λ entries. end_at (take (length bytes - length entries.1) bytes) faults.Truncated entries.1 >>= λ digest. Ok (loaded_of header.0 entries.0 digest)) found read in
    let b = bind_ok (entries_at (size_of a.0.0.level) faults.Truncated a.0.1)
    (λ entries. end_at (take (length bytes - length entries.1) bytes) faults.Truncated entries.1 >>= λ digest. Ok (loaded_of a.0.0 entries.0 digest)) found a.2 in
    let c = bind_ok (end_at (take (length bytes - length b.0.1) bytes) faults.Truncated b.0.1) (λ digest. Ok (loaded_of a.0.0 b.0.0 digest)) found b.2 in
    let same = ok_is (loaded_of a.0.0 b.0.0 c.0) found c.2 in
    subst (λ (l : Loaded). IsRead bytes l.image) same (record { header = a.0.0; front = a.0.1; back = b.0.1; begins = a.1; entries = b.1; limit = refl })

entry_says : (bytes : List ℕ) (image : Image) (k : ℕ) → IsRead bytes image → k < size_of image.level → get_or image.entries k no_entry ≡ entry_in bytes k
unfolding entry_in
entry_says bytes image k is lt =
    let place : drop (6 * k) is.front ≡ drop (entry_place k) bytes = ap (drop (6 * k)) (sym (behind_header bytes (is.header, is.front) is.begins)) ∙ drop-drop (6 * k) 52 bytes in
    let lies = entry_lies (size_of image.level) k faults.Truncated is.front (image.entries, is.back) no_entry is.entries lt in
    sym (ap (λ (l : List ℕ). entry_or_none (entry_of (take 6 l))) (sym place) ∙ ap entry_or_none lies)

limit_says : (bytes : List ℕ) (image : Image) → IsRead bytes image → limit_in bytes ≡ image.limit
unfolding limit_in
limit_says bytes image is = ap limit_or_none is.begins ∙ is.limit

abbrev image_with : ℕ → ℕ → List Entry → Image
image_with level limit entries = record { level = level; limit = limit; entries = entries }

-- what a right file says
image_says : (n : ℕ) (bytes : List ℕ) (found : Loaded) → IsFileOf bytes found → found.image.level ≡ n → image_in n (Some bytes) ≡ found.image
unfolding image_in
image_says n bytes found file level =
    let v = found.version in
    let image = found.image in
    let small = size_small image.level (low_in v image.level file.has.low) in
    let read : file_in bytes ≡ Ok (found_of v image found.below) = ap file_in file.text ∙ file_again v image found.below file.has small in
    let is = read_whole bytes (found_of v image found.below) read in
    let size : length image.entries ≡ size_of n = file.has.sized ∙ ap size_of level in
    let all = fill_by_all (entry_in bytes) image.entries (size_of n) no_entry size (λ k lt. entry_says bytes image k is (subst (λ (m : ℕ). k < size_of m) (sym level) lt)) in
    ap (λ (l : ℕ). image_with n l (map (entry_in bytes) (range_with_len 0 (size_of n)))) (limit_says bytes image is)
    ∙ ap (λ (es : List Entry). image_with n image.limit es) (sym all)
    ∙ ap (λ (m : ℕ). image_with m image.limit image.entries) (sym level)

pub some_of : (o : Option (List ℕ)) (P : List ℕ → Type 0) → IsSomeAnd o P → (x : List ℕ) × (o ≡ Some x) × P x
some_of None P h = absurd h
some_of (Some x) P h = (x, refl, h)

pub shelf_said : (names : ℕ → Option (List ℕ)) (n : ℕ) (shelf : List Image) (digest : List ℕ) → HoldLevels names n shelf digest → images_in names n ≡ shelf
unfolding images_in
shelf_said names zero shelf digest held = sym held.0
shelf_said names (suc n) shelf digest (lower, below, held, next) =
    let (bytes, there, file) = some_of (names n) (λ bytes. IsNextFile lower below bytes shelf digest) next in
    let level : file.loaded.image.level ≡ n = file.right.next ∙ held_length names n lower below held in
    let top : image_in n (names n) ≡ file.loaded.image = ap (image_in n) there ∙ image_says n bytes file.loaded file.file level in
    let more : suc n ≡ n + 1 = omega arith in
    ap (λ (m : ℕ). map (image_named names) (range_with_len 0 m)) more
    ∙ map-range_with_len_more (image_named names) 0 n n (omega arith)
    ∙ ap (λ (l : List Image). l ++ image_named names n ∷ []) (shelf_said names n lower below held)
    ∙ ap (λ (i : Image). lower ++ i ∷ []) top
    ∙ sym file.on_top

held_named : (names : ℕ → Option (List ℕ)) (n k : ℕ) (shelf : List Image) (digest : List ℕ) → HoldLevels names n shelf digest → k < n → names k ≡ None → ⊥
held_named names zero k shelf digest held lt none = omega (arith, lt)
held_named names (suc n) k shelf digest (lower, below, held, next) lt none = elim (cases_lt k n) [
  | inl less ↦ held_named names n k lower below held less none
  | inr ge ↦
      let (bytes, there, file) = some_of (names n) (λ bytes. IsNextFile lower below bytes shelf digest) next in
      let same : k ≡ n = omega (arith, ge, lt) in
      let both : names k ≡ Some bytes = ap names same ∙ there in
      cc
]

framed_named : (names : ℕ → Option (List ℕ)) (k : ℕ) → IsFramed names k → names k ≡ None → ⊥
framed_named names k framed none = let (bytes, there, _) = some_of (names k) _ framed in cc

pub same_levels : (most : ℕ) (names : ℕ → Option (List ℕ)) (shelf : List Image) (digest : List ℕ) (opened : Opened) → IsStoredTo most names shelf digest → AreFramed most names opened
    → opened.levels ≡ length shelf
same_levels most names shelf digest opened stored framed = elim (cases_lt opened.levels (length shelf)) [
  | inl fewer ↦ absurd (elim framed.end [
    | inl none ↦ held_named names (length shelf) opened.levels shelf digest stored.levels fewer none
    | inr over ↦ let few = stored.few in omega (arith, over, fewer, few)
  ])
  | inr ge ↦ elim (cases_lt (length shelf) opened.levels) [
    | inl fewer ↦ absurd (elim stored.end [
      | inl none ↦ framed_named names (length shelf) (framed.each (length shelf) fewer) none
      | inr over ↦ let few = framed.few in omega (arith, over, fewer, few)
    ])
    | inr le ↦ omega (arith, ge, le)
  ]
]
