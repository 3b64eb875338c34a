-- Texts with commas between them, put one behind another.
use Rattle.std.proofs.Common.{◌≡◌, ℕ, zero, suc, ◌+◌, ◌<◌, List, [], ◌∷◌, ◌++◌, length, get_or, map, take, sym, ap, ◌∙◌, append-nil, append_assoc, arith}
use Rattle.std.specs.List.{flat_map}
use Rattle.std.proofs.lemmas.Bool.Decides.{nat_tests}
use Rattle.std.proofs.lemmas.Grind.{flat_map-append}
use Rattle.std.proofs.lemmas.List.{map_push, take_more}
use Rattle.awari_members.specs.Json.{comma_before, commas}

pub append_two : (t a b u z : List ℕ) → u ≡ t ++ a → z ≡ u ++ b → z ≡ t ++ (a ++ b)
append_two t a b u z e f = f ∙ ap (λ x. x ++ b) e ∙ append_assoc t a b

comma-after : (j : ℕ) → comma_before (suc j) ≡ 44 ∷ []
comma-after j = grind (arith, nat_tests)

-- one element more
pub commas-more : {A : Type 0} (f : A → List ℕ) (xs : List A) (i : ℕ) (x : A) → i < length xs → get_or xs i x ≡ x
    → commas (map f (take (i + 1) xs)) ≡ commas (map f (take i xs)) ++ (comma_before i ++ f x)
commas-more f [] i x inside own = absurd (omega (arith, inside))
commas-more f (y ∷ ys) zero x inside own = append-nil (f y) ∙ ap f own
commas-more f (y ∷ ys) (suc j) x inside own =
    ap (λ zs. commas (map f zs)) (take_more (y ∷ ys) (suc j) x inside ∙ ap (λ z. take (suc j) (y ∷ ys) ++ z ∷ []) own)
    ∙ ap (λ zs. f y ++ flat_map (λ t. 44 ∷ t) zs) (map_push f (take j ys) x)
    ∙ ap (λ t. f y ++ t) (flat_map-append (λ t. 44 ∷ t) (map f (take j ys)) (f x ∷ []) ∙ ap (λ t. flat_map (λ t. 44 ∷ t) (map f (take j ys)) ++ t) (append-nil (44 ∷ f x)))
    ∙ sym (append_assoc (f y) (flat_map (λ t. 44 ∷ t) (map f (take j ys))) (44 ∷ f x))
    ∙ ap (λ t. (f y ++ flat_map (λ t. 44 ∷ t) (map f (take j ys))) ++ (t ++ f x)) (sym (comma-after j))

-- the same behind a text
pub commas-behind : {A : Type 0} (f : A → List ℕ) (xs : List A) (i : ℕ) (x : A) (text before between after : List ℕ) → i < length xs → get_or xs i x ≡ x
    → before ≡ text ++ commas (map f (take i xs)) → between ≡ before ++ comma_before i → after ≡ between ++ f x → after ≡ text ++ commas (map f (take (i + 1) xs))
commas-behind f xs i x text before between after inside own made comma more =
    append_two before (comma_before i) (f x) between after comma more ∙ ap (λ t. t ++ (comma_before i ++ f x)) made
    ∙ append_assoc text (commas (map f (take i xs))) (comma_before i ++ f x) ∙ ap (λ t. text ++ t) (sym (commas-more f xs i x inside own))
