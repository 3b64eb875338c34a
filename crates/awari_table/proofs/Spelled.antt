-- Entries that are spelled one after another.
use Rattle.std.proofs.Common.{◌≡◌, ◌<◌, ◌+◌, ◌^◌, refl, All, ℕ, List, [], ◌∷◌, ◌++◌, length, get_or, Option, Some, slice_get, arith, suc, sym, ap, subst, ◌∙◌, append-nil, take, drop}
use Rattle.std.specs.Io.KnownBytes.{Appends}
use Rattle.std.specs.List.{flat_map, AllByRecursion}
use Rattle.std.proofs.lemmas.Int.{ints}
use Rattle.std.proofs.KnownBytes.{Appends-trans}
use Rattle.std.proofs.Math.Seq.{take-add}
use Rattle.std.proofs.lemmas.List.{take_more}
use Rattle.std.proofs.lemmas.List.Concat.{flat_map-append}
use Rattle.std.proofs.lemmas.Option.{get_or_from_slice_get, slice_get_within}
use Rattle.awari_table.specs.declared.images.Entry.{Entry}
use Rattle.awari_table.specs.declared.images.Image.{Image}
use Rattle.awari_table.specs.Images.{no_image, HasOwnPlan, IsLevel}
use Rattle.awari_table.specs.Shelves.{IsShelf}
use Rattle.awari_table.proofs.ShelfLemmas.{take-read}
use Rattle.awari_table.specs.Spelling.{entry_line, block, table_text, FitsNumbers, IsEntry, IsImage, AreImages}

-- one entry more
pub spelled_more : (entries : List Entry) (i : ℕ) (none : Entry) (before after : List ℕ) → i < length entries → before ≡ flat_map entry_line (take i entries)
    → after ≡ before ++ entry_line (get_or entries i none) → after ≡ flat_map entry_line (take (i + 1) entries)
spelled_more entries i none before after inside spelled more =
    let entry : Entry = get_or entries i none in
    more ∙ ap (λ l. l ++ entry_line entry) spelled ∙ ap (λ l. flat_map entry_line (take i entries) ++ l) (sym (append-nil (entry_line entry)))
    ∙ sym (flat_map-append entry_line (take i entries) (entry ∷ [])) ∙ ap (flat_map entry_line) (sym (take_more entries i none inside))

pub more_lines : (a b c : Option (List ℕ)) (done front : List Entry) → Appends a b (flat_map entry_line done) → Appends b c (flat_map entry_line front) → Appends a c (flat_map entry_line (done ++ front))
more_lines a b c done front p q = subst (Appends a c) (sym (flat_map-append entry_line done front)) (Appends-trans a b c (flat_map entry_line done) (flat_map entry_line front) p q)

-- a run more of the entries
pub more_run : (a b c : Option (List ℕ)) (entries : List Entry) (from count : ℕ) → Appends a b (flat_map entry_line (take from entries)) → Appends b c (flat_map entry_line (take count (drop from entries)))
    → Appends a c (flat_map entry_line (take (from + count) entries))
more_run a b c entries from count p q =
    subst (λ (es : List Entry). Appends a c (flat_map entry_line es)) (sym (take-add from count entries)) (more_lines a b c (take from entries) (take count (drop from entries)) p q)

pub AreImages-push : (level : ℕ) (images : List Image) (image : Image) → AreImages level images → IsImage (level + length images) image → AreImages level (images ++ image ∷ [])
AreImages-push level [] image fits last = let same : level + 0 ≡ level = omega arith in (rw same at last, tt)
AreImages-push level (i ∷ images) image fits last = let same : level + suc (length images) ≡ level + 1 + length images = omega arith in (fits.0, AreImages-push (level + 1) images image fits.1 (rw same at last))

-- one level more
pub texts_more : (shelf : List Image) (n : ℕ) (image : Image) (before middle after : Option (List ℕ)) → IsShelf shelf → slice_get shelf n ≡ Some image → IsImage image.level image
    → Appends before middle (table_text (take n shelf)) → AreImages 0 (take n shelf) → Appends middle after (block image)
    → Appends before after (table_text (take (n + 1) shelf)) × AreImages 0 (take (n + 1) shelf)
texts_more shelf n image before middle after is found fits wrote below written = (
  subst (Appends before after) (sym text) (Appends-trans before middle after (table_text (take n shelf)) (block image) wrote written),
  subst (AreImages 0) (sym more) (AreImages-push 0 (take n shelf) image below (subst (λ k. IsImage k image) place fits)),
)
  where
    inside : n < length shelf
    inside = slice_get_within shelf n image found

    own : get_or shelf n no_image ≡ image
    own = get_or_from_slice_get shelf n image no_image found

    more : take (n + 1) shelf ≡ take n shelf ++ image ∷ []
    more = take-read shelf n image found

    place : image.level ≡ 0 + length (take n shelf)
    place =
        let next : image.level ≡ length (take n shelf) = ap (λ m. m.level) (sym own) ∙ (is.consistent n inside).next in
        omega (arith, next)

    text : table_text (take (n + 1) shelf) ≡ table_text (take n shelf) ++ block image
    text = ap table_text more ∙ flat_map-append block (take n shelf) (image ∷ []) ∙ ap (λ t. table_text (take n shelf) ++ t) (append-nil (block image))

entries_fit : (es : List Entry) → All HasOwnPlan es → All FitsNumbers es → AllByRecursion IsEntry es
entries_fit [] own fit = tt
entries_fit (e ∷ es) own fit = (
  is_entry e (own 0 e (omega arith)) (fit 0 e (omega arith)),
  entries_fit es (λ k d h. own (suc k) d (omega (arith, h))) (λ k d h. fit (suc k) d (omega (arith, h))),
)
  where
    is_entry : (e : Entry) → HasOwnPlan e → FitsNumbers e → IsEntry e
    is_entry e own fit =
        let value = fit.value in
        record { low = grind (arith, ints); high = grind (arith, ints); plan = own; dist = fit.dist }

-- a level whose numbers fit their bytes is an image
pub image_fits : (image : Image) → IsLevel image → image.limit < 2 ^ 32 → All FitsNumbers image.entries → IsImage image.level image
image_fits image is limit fit = record {
  number = refl;
  low = is.low;
  limit = limit;
  sized = is.sized;
  entries = entries_fit image.entries is.plans fit;
}
