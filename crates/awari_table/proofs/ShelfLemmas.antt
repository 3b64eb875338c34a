-- Shelves with a level more.
use Rattle.std.proofs.Common.{◌≡◌, ℕ, ℤ, ◌+◌, ◌<◌, ◌≤◌, ◌∙◌, List, [], ◌∷◌, ◌++◌, All, length, take, get_or, map, Option, Some, IsSome, subst, sum, max, slice_get, arith, rules, length-append, below_more}
use Rattle.std.proofs.lemmas.List.{take-append-le, take_more, map-append, length-take, take-take, get_or-take, get_or_default}
use Rattle.std.proofs.lemmas.List.Elements.{All-push}
use Rattle.std.proofs.lemmas.List.Sums.{fold_more}
use Rattle.std.proofs.Math.ListN.{get_or-append}
use Rattle.std.proofs.Math.Seq.{take-append_seam, get_or-append_seam}
use Rattle.std.specs.declared.sync.Arc.{Arc}
use Rattle.awari_table.specs.declared.images.Image.{Image}
use Rattle.std.proofs.lemmas.Option.{get_or_from_slice_get, slice_get_within}
use Rattle.awari_rank.specs.Rank.{rank_of, size_of}
use Rattle.awari_rank.proofs.Reaching.{board_reached}
use Rattle.awari_table.specs.declared.images.Entry.{Entry}
use Rattle.awari_table.specs.Certificate.{IsRight}
use Rattle.awari_table.specs.Images.{HasOwnPlan, IsLevel, no_image, no_entry, entry_of, greatest_limit, table_of}
use Rattle.awari_table.proofs.EntryLemmas.{entry_of-rank}
use Rattle.awari_table.specs.Shelves.{Consistent, IsShelf}
use Rattle.awari_table.specs.Slots.{image_in, HoldsShelf}

-- the level at k is consistent over those below it
abbrev ConsistentAt : List Image → ℕ → Type 0
ConsistentAt levels k = Consistent (take k levels) (get_or levels k no_image)

pub IsShelf-push : (levels : List Image) (image : Image) → IsShelf levels → Consistent levels image → IsShelf (levels ++ image ∷ [])
IsShelf-push levels image shelf top = record {
  few = let next = top.next in let low = top.low in omega (arith, length-append levels (image ∷ []));
  consistent = λ i h.
      below_more (ConsistentAt (levels ++ image ∷ [])) (length levels)
      (λ k below. let within : k ≤ length levels = omega arith in rw (take-append-le k levels (image ∷ []), get_or-append levels (image ∷ []) no_image k below) (shelf.consistent k below))
      (rw (take-append_seam levels (image ∷ []), get_or-append_seam levels image [] no_image) top)
      i (omega (arith, length-append levels (image ∷ [])));
}

-- the lowest levels of a shelf are a shelf
pub IsShelf-take : (levels : List Image) (n : ℕ) → IsShelf levels → IsShelf (take n levels)
IsShelf-take levels n shelf = record {
  few = let few = shelf.few in omega (arith, length-take n levels);
  consistent = λ i h.
      let below : i < n = omega (arith, length-take n levels) in
      let within : i < length levels = omega (arith, length-take n levels) in
      rw (take-take i n levels (omega arith), get_or-take n levels i no_image below) (shelf.consistent i within);
}

pub HoldsShelf-push : {Z : Type 0} (slots : List (Option (Arc Image Z))) (level : Arc Image Z) → HoldsShelf slots → Consistent (map image_in slots) level.value → HoldsShelf (slots ++ Some level ∷ [])
HoldsShelf-push slots level holds top = record {
  full = All-push (λ o. IsSome o) slots (Some level) holds.full (search rules);
  shelf = rw map-append (IsShelf-push (map image_in slots) level.value holds.shelf top);
}

-- a level of a shelf may be pushed on those below it
pub Consistent-level : (levels shelf : List Image) (n : ℕ) (image : Image) → IsShelf levels → slice_get levels n ≡ Some image → shelf ≡ take n levels → Consistent shelf image
Consistent-level levels shelf n image holds found same =
    rw (same, ← get_or_from_slice_get levels n image no_image found) (holds.consistent n (slice_get_within levels n image found))

-- the entry of a board is read at its stones and its rank
pub entry_of-read : (levels : List Image) (p : List ℕ) (image : Image) (e : Entry) → slice_get levels (sum p) ≡ Some image → slice_get image.entries (rank_of p) ≡ Some e → e ≡ entry_of levels p
unfolding entry_of
entry_of-read levels p image e found read =
    rw (get_or_from_slice_get levels (sum p) image no_image found, get_or_from_slice_get image.entries (rank_of p) e no_entry read)

-- and so is its value
pub value_of-read : (levels : List Image) (p : List ℕ) (image : Image) (v : ℤ) → slice_get levels (sum p) ≡ Some image → v ≡ (get_or image.entries (rank_of p) no_entry).value → v ≡ (entry_of levels p).value
unfolding entry_of
value_of-read levels p image v found read = rw (get_or_from_slice_get levels (sum p) image no_image found) read

-- a front with a level more
pub take-read : {X : Type 0} (xs : List X) (i : ℕ) (x : X) → slice_get xs i ≡ Some x → take (i + 1) xs ≡ take i xs ++ x ∷ []
take-read xs i x found =
    let within = slice_get_within xs i x found in
    rw (take_more xs i x within, get_or_from_slice_get xs i x x found)

-- the greatest limit of a front with a level more
pub greatest_limit-read : (levels : List Image) (i : ℕ) (image : Image) → slice_get levels i ≡ Some image → greatest_limit (take (i + 1) levels) ≡ max (greatest_limit (take i levels)) image.limit
greatest_limit-read levels i image found =
    rw (fold_more (λ most j. max most j.limit) 0 levels i image (slice_get_within levels i image found), get_or_from_slice_get levels i image image found)

-- a right board has an own plan, which is that of the entry at its rank
pub HasOwnPlan-top : (levels : List Image) (image : Image) (p : List ℕ) (rank : ℕ) → sum p ≡ length levels → rank_of p ≡ rank → IsRight (table_of (levels ++ image ∷ [])) p → HasOwnPlan (get_or image.entries rank no_entry)
HasOwnPlan-top levels image p rank top ranked right =
    subst (λ (e : Entry). HasOwnPlan e) (entry_of-rank levels image p rank top ranked) right.in_range.2

-- in a consistent image every plan is an own pit
plans_from_right : (levels : List Image) (image : Image) → Consistent levels image → All HasOwnPlan image.entries
plans_from_right levels image consistent k d lt =
    let sized = consistent.sized in
    let within_low = consistent.low in
    let within : k < size_of image.level = omega arith in
    let at = board_reached image.level k (omega arith) within in
    let ranked = at.3 in
    rw (get_or_default image.entries k d no_entry lt)
    (HasOwnPlan-top levels image at.0 k (at.2 ∙ consistent.next) at.3 (consistent.right at.0 at.1 at.2))

-- a consistent image is one of a level
pub IsLevel-consistent : (levels : List Image) (image : Image) → Consistent levels image → IsLevel image
IsLevel-consistent levels image consistent = record {
  low = consistent.low;
  sized = consistent.sized;
  plans = plans_from_right levels image consistent;
}
