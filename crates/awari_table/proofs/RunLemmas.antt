-- Runs of entries, gone over one by one.
use Rattle.std.proofs.Common.{◌≡◌, ℕ, ◌+◌, ◌<◌, ◌∙◌, List, [], ◌∷◌, ◌++◌, length, take, drop, slice_set as set, Some, slice_get, ap, sym, arith, length-drop}
use Rattle.std.proofs.lemmas.List.{take_more_set, get_or-drop}
use Rattle.std.proofs.lemmas.Option.{get_or_from_slice_get, slice_get-get_or, slice_get_within}
use Rattle.awari_table.proofs.ShelfLemmas.{take-read}

-- a read behind a front is one from further on
pub slice_get-drop : {X : Type 0} (xs : List X) (from k : ℕ) (x : X) → slice_get xs (from + k) ≡ Some x → slice_get (drop from xs) k ≡ Some x
slice_get-drop xs from k x found =
    let within = slice_get_within xs (from + k) x found in
    let low : k < length (drop from xs) = omega (arith, length-drop from xs) in
    slice_get-get_or (drop from xs) k x low ∙ ap (λ y. Some y) (get_or-drop from xs k x ∙ get_or_from_slice_get xs (from + k) x x found)

-- one more is copied
pub copied : {X : Type 0} (xs run : List X) (from k : ℕ) (x : X) → slice_get xs (from + k) ≡ Some x → k < length run → take k run ≡ take k (drop from xs)
    → take (k + 1) (set run k x) ≡ take (k + 1) (drop from xs)
copied xs run from k x found low before =
    take_more_set run k x low ∙ ap (λ ys. ys ++ x ∷ []) before ∙ sym (take-read (drop from xs) k x (slice_get-drop xs from k x found))
