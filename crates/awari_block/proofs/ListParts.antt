-- Parts of lists.
use Rattle.std.proofs.Common.{◌≡◌, ℕ, List, ◌++◌, length, ap, ◌∙◌, append-nil, arith, drop, take, [], ◌∷◌, All, subst, length-append, get_or, subst₂, ◌<◌}
use Rattle.std.proofs.lemmas.List.{take_all, drop_all, get_or_append_left, get_or_default}
use Rattle.std.proofs.lemmas.List.Elements.{All-tail}
use Rattle.awari_block.specs.Each.{EachTo}

-- what a slice writes back
pub written : {X : Type 0} (items old : List X) (n : ℕ) → length items ≡ n → length old ≡ n → take n (items ++ drop (length items) old) ≡ items
written items old n new was =
    ap (λ l. take n (items ++ l)) (drop_all (length items) old (omega (arith, new, was))) ∙ ap (take n) (append-nil items) ∙ take_all n items (omega (arith, new))

pub All-append_first : {X : Type 0} → (P : X → Type 0) (xs ys : List X) → All P (xs ++ ys) → All P xs
All-append_first P xs ys all k d h = subst P (get_or_append_left xs ys d k h) (all k d (let long = length-append xs ys in omega (arith, long, h)))

pub All-append_second : {X : Type 0} → (P : X → Type 0) (xs ys : List X) → All P (xs ++ ys) → All P ys
All-append_second P [] ys all = all
All-append_second P (x ∷ xs) ys all = All-append_second P xs ys (All-tail P x (xs ++ ys) all)

-- it holds of each, whatever stands for one that is not there, if it does with this in its place
pub each_at : {X : Type 0} → (R : X → X → Type 0) (d : X) (xs ys : List X) → length ys ≡ length xs → ((i : ℕ) → i < length xs → R (get_or xs i d) (get_or ys i d)) → EachTo R xs ys
each_at R d xs ys many each = record {
  many = many;
  each = λ i e few. subst₂ R (get_or_default xs i d e few) (get_or_default ys i d e (omega (arith, few, many))) (each i few);
}
