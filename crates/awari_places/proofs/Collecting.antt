-- Levels that are read whole are those that the files say.
use Rattle.std.proofs.Common.{◌≡◌, ℕ, zero, suc, ◌+◌, ◌<◌, ◌≤◌, List, [], ◌∷◌, ◌++◌, get_or, length, map, slice_get, take, Option, Some, None, refl, sym, ap, subst, ◌∙◌, arith, inl, inr}
use Rattle.std.specs.Prelude.{IsSomeAnd}
use Rattle.std.specs.List.{range_with_len}
use Rattle.std.proofs.lemmas.Bool.{cases_lt}
use Rattle.std.proofs.lemmas.List.{get_or_append_left, get_or_push, length-append, take_all}
use Rattle.std.proofs.lemmas.List.FromFn.{length-map-range_with_len}
use Rattle.awari_folder.specs.Contents.{Stands}
use Rattle.awari_rank.proofs.Reaching.{size_of-positive}
use Rattle.awari_rank.specs.Rank.{size_of}
use Rattle.awari_table.proofs.ShelfLemmas.{take-read}
use Rattle.awari_table.specs.Images.{no_image}
use Rattle.awari_table.specs.declared.TheConstants.{HIGHEST_LEVEL}
use Rattle.awari_table.specs.declared.images.Entry.{Entry}
use Rattle.awari_table.specs.declared.images.Image.{Image}
use Rattle.awari_places.specs.Places.{AreFormed, Says, entry_in, image_in, limit_in}
use Rattle.awari_places.proofs.Reading.{image_got, levels_said}

-- the first entries of the level of this number
abbrev pub AreFirst : List Image → ℕ → ℕ → List Entry → Type 0
AreFirst images level rank entries = IsSomeAnd (slice_get images level) (λ image. entries ≡ take rank image.entries)

pub first-none : (stands : Stands) (levels level : ℕ) (images : List Image) (entries : List Entry) → Says stands levels images → level < levels → entries ≡ [] → AreFirst images level 0 entries
first-none stands levels level images entries says low none =
    subst (λ (o : Option Image). IsSomeAnd o (λ image. entries ≡ take 0 image.entries)) (sym (image_got stands levels level images says low)) none

-- one more is read
grown : (o : Option Image) (rank : ℕ) (entries next : List Entry) (e : Entry) → IsSomeAnd o (λ image. entries ≡ take rank image.entries) → IsSomeAnd o (λ image. slice_get image.entries rank ≡ Some e)
    → next ≡ entries ++ e ∷ [] → IsSomeAnd o (λ image. next ≡ take (rank + 1) image.entries)
grown None rank entries next e before there more = absurd before
grown (Some image) rank entries next e before there more = more ∙ ap (λ (es : List Entry). es ++ e ∷ []) before ∙ sym (take-read image.entries rank e there)

pub first-more : (images : List Image) (level rank : ℕ) (entries next : List Entry) (e : Entry) → AreFirst images level rank entries → IsSomeAnd (slice_get images level) (λ image. slice_get image.entries rank ≡ Some e)
    → next ≡ entries ++ e ∷ [] → AreFirst images level (rank + 1) next
first-more images level rank entries next e before there more = grown (slice_get images level) rank entries next e before there more

abbrev no_entries : List Entry
no_entries = []

none_taken : (n : ℕ) → take n no_entries ≡ no_entries
none_taken zero = refl
none_taken (suc n) = refl

abbrev made : ℕ → ℕ → List Entry → Image
made level limit entries = record { level = level; limit = limit; entries = entries }

-- a limit and as many entries as there are boards are the level
is_made : (level limit : ℕ) (name : Option (List ℕ)) (entries : List Entry) → limit ≡ (image_in level name).limit → entries ≡ take (size_of level) (image_in level name).entries → length entries ≡ size_of level
    → image_in level name ≡ made level limit entries
unfolding image_in
is_made level limit None entries limited are long =
    let none : length entries ≡ 0 = ap length (are ∙ none_taken (size_of level)) in
    let some = size_of-positive level in
    absurd (omega (arith, none, long, some))
is_made level limit (Some bytes) entries limited are long =
    let sized : length (map (entry_in bytes) (range_with_len 0 (size_of level))) ≡ size_of level = length-map-range_with_len (entry_in bytes) 0 (size_of level) in
    let whole : map (entry_in bytes) (range_with_len 0 (size_of level)) ≡ entries = sym (are ∙ take_all (size_of level) (map (entry_in bytes) (range_with_len 0 (size_of level))) (omega (arith, sized))) in
    ap (made level (limit_in bytes)) whole ∙ ap (λ (l : ℕ). made level l entries) (sym limited)

some_is : (o : Option Image) (image : Image) (P : Image → Type 0) → o ≡ Some image → IsSomeAnd o P → P image
some_is o image P is holds = subst (λ (q : Option Image). IsSomeAnd q P) is holds

pub level_is : (stands : Stands) (levels level limit : ℕ) (images : List Image) (entries : List Entry) → Says stands levels images → level < levels
    → IsSomeAnd (slice_get images level) (λ image. limit ≡ image.limit) → AreFirst images level (size_of level) entries → length entries ≡ size_of level → slice_get images level ≡ Some (made level limit entries)
level_is stands levels level limit images entries says low limited are long =
    let got = image_got stands levels level images says low in
    let same = is_made level limit (says.names level) entries (some_is (slice_get images level) _ (λ image. limit ≡ image.limit) got limited) (some_is (slice_get images level) _ (λ image. entries ≡ take (size_of level) image.entries) got are) long in
    got ∙ ap (λ (m : Image). Some m) same

-- ---- level by level

pub formed-none : (images : List Image) → images ≡ [] → AreFormed images
formed-none images none =
    let empty : length images ≡ 0 = ap length none in
    record {
      few = omega (arith, empty);
      number = λ level low. absurd (omega (arith, low, empty));
      sized = λ level low. absurd (omega (arith, low, empty));
    }

pub formed-more : (images next : List Image) (image : Image) (n : ℕ) → AreFormed images → length images ≡ n → n ≤ HIGHEST_LEVEL → image.level ≡ n → length image.entries ≡ size_of n → next ≡ images ++ image ∷ [] → AreFormed next
formed-more images next image n formed long low number sized is =
    subst (λ (ms : List Image). AreFormed ms) (sym is) (record {
      few = omega (arith, length-append images (image ∷ []), long, low);
      number = λ level within. each level (λ (m : Image). m.level ≡ level) (formed.number level) (λ same. number ∙ same) within;
      sized = λ level within. each level (λ (m : Image). length m.entries ≡ size_of level) (formed.sized level) (λ same. sized ∙ ap size_of same) within;
    })
  where
    each : (level : ℕ) (P : Image → Type 0) → (level < length images → P (get_or images level no_image)) → (n ≡ level → P image) → level < length (images ++ image ∷ []) → P (get_or (images ++ image ∷ []) level no_image)
    each level P old new within = elim (cases_lt level (length images)) [
      | inl less ↦ subst P (sym (get_or_append_left images (image ∷ []) no_image level less)) (old less)
      | inr ge ↦
          let last : length images ≡ level = omega (arith, ge, within, length-append images (image ∷ [])) in
          subst P (sym (get_or_push images image no_image level last)) (new (sym long ∙ last))
    ]

pub levels-more : (images read next : List Image) (image : Image) (n : ℕ) → read ≡ take n images → slice_get images n ≡ Some image → next ≡ read ++ image ∷ [] → next ≡ take (n + 1) images
levels-more images read next image n before there more = more ∙ ap (λ (ms : List Image). ms ++ image ∷ []) before ∙ sym (take-read images n image there)

pub levels-all : (stands : Stands) (levels n : ℕ) (images read : List Image) → Says stands levels images → read ≡ take n images → levels ≤ n → read ≡ images
levels-all stands levels n images read says before all = before ∙ take_all n images (omega (arith, all, levels_said stands levels images says))
