-- Texts that are made of parts, one after the other.
use Rattle.std.proofs.Common.{◌≡◌, ℕ, ◌+◌, List, [], ◌∷◌, ◌++◌, Option, sym, ◌∙◌, ap, subst, arith}
use Rattle.std.proofs.KnownBytes.{Appends-trans}
use Rattle.std.proofs.lemmas.Grind.{flat_map-append}
use Rattle.std.proofs.lemmas.List.{append-nil, map-id}
use Rattle.std.proofs.lemmas.List.FromFn.{map-range_with_len_more}
use Rattle.std.specs.Io.KnownBytes.{Appends}
use Rattle.std.specs.List.{flat_map, range_with_len}

range-more : (n : ℕ) → range_with_len 0 (n + 1) ≡ range_with_len 0 n ++ n ∷ []
range-more n = sym (map-id (range_with_len 0 (n + 1))) ∙ map-range_with_len_more (λ k. k) 0 n n (omega arith) ∙ ap (λ xs. xs ++ n ∷ []) (map-id (range_with_len 0 n))

-- the parts up to one
pub lines-more : (f : ℕ → List ℕ) (n : ℕ) → flat_map f (range_with_len 0 (n + 1)) ≡ flat_map f (range_with_len 0 n) ++ f n
lines-more f n = ap (flat_map f) (range-more n) ∙ flat_map-append f (range_with_len 0 n) (n ∷ []) ∙ ap (λ t. flat_map f (range_with_len 0 n) ++ t) (append-nil (f n))

-- one part more
pub lines-next : (f : ℕ → List ℕ) (n : ℕ) (before now after : Option (List ℕ)) → Appends before now (flat_map f (range_with_len 0 n)) → Appends now after (f n)
    → Appends before after (flat_map f (range_with_len 0 (n + 1)))
lines-next f n before now after so_far next = subst (Appends before after) (sym (lines-more f n)) (Appends-trans before now after _ _ so_far next)
