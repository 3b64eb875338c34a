-- Samples, one more at the end of a list, and their length.
use Rattle.std.proofs.Common.{◌≡◌, ◌-◌, ◌/◌, ◌%◌, ◌<◌, ◌≤◌, max, min, Bool, true, false, cond, List, [], ◌∷◌, ◌++◌, length, Option, Some, None, refl, sym, ap, ◌∙◌, arith}
use Rattle.std.proofs.lemmas.Bool.Decides.{nat_tests}
use Rattle.std.proofs.lemmas.Nat.{mod_below}
use Rattle.awari_queries.specs.Draws.{drawn, drawn_on, is_drawn, is_taken, left_after, next_number, sample, taken}
use Rattle.awari_queries.specs.declared.draws.Draw.{Draw}

sample-push : {A : Type 0} (d : Draw) (xs : List A) (x : A) → sample d (xs ++ x ∷ []) ≡ sample d xs ++ cond (is_taken (left_after (Some d) xs)) (x ∷ []) []
sample-push d [] x = go (is_drawn d)
  where
    go : (b : Bool) → cond b (x ∷ []) [] ≡ [] ++ cond b (x ∷ []) []
    go true = refl
    go false = refl
sample-push d (y ∷ ys) x = go (is_drawn d) (sample-push (drawn d) ys x)
  where
    go : (b : Bool) → sample (drawn d) (ys ++ x ∷ []) ≡ sample (drawn d) ys ++ cond (is_taken (left_after (Some (drawn d)) ys)) (x ∷ []) []
        → cond b (y ∷ sample (drawn d) (ys ++ x ∷ [])) (sample (drawn d) (ys ++ x ∷ []))
        ≡ cond b (y ∷ sample (drawn d) ys) (sample (drawn d) ys) ++ cond (is_taken (left_after (Some (drawn d)) ys)) (x ∷ []) []
    go true rest = ap (λ t. y ∷ t) rest
    go false rest = rest

pub left-none : {A : Type 0} (xs : List A) → left_after None xs ≡ None
left-none [] = refl
left-none (x ∷ xs) = left-none xs

-- what is taken of a list with one more at its end
pub taken-push : {A : Type 0} (d : Option Draw) (xs : List A) (x : A) → taken d (xs ++ x ∷ []) ≡ taken d xs ++ cond (is_taken (left_after d xs)) (x ∷ []) []
taken-push None xs x = ap (λ l. xs ++ cond (is_taken l) (x ∷ []) []) (sym (left-none xs))
taken-push (Some d) xs x = sample-push d xs x

pub left-push : {A : Type 0} (d : Option Draw) (xs : List A) (x : A) → left_after d (xs ++ x ∷ []) ≡ drawn_on (left_after d xs)
left-push d [] x = refl
left-push d (y ∷ ys) x = left-push (drawn_on d) ys x

-- a sample has as many as are wanted, or all if there are no more
pub sample-length : {A : Type 0} (d : Draw) (xs : List A) → d.left ≡ length xs → length (sample d xs) ≡ min d.wanted (length xs)
sample-length d [] left = omega arith
sample-length d (x ∷ xs) left = go (is_drawn d) refl (sample-length (drawn d) xs (omega (arith, left)))
  where
    below : next_number d.seed / 4294967296 % max 1 d.left < max 1 d.left
    below = mod_below (next_number d.seed / 4294967296) (max 1 d.left) (omega arith)

    go : (b : Bool) → is_drawn d ≡ b → length (sample (drawn d) xs) ≡ min (drawn d).wanted (length xs) → length (sample d (x ∷ xs)) ≡ min d.wanted (length (x ∷ xs))
    go true is rest =
        let some : next_number d.seed / 4294967296 % max 1 d.left < d.wanted = grind (arith, nat_tests) in
        let fewer : (drawn d).wanted ≡ d.wanted - 1 = ap (λ b. cond b (d.wanted - 1) d.wanted) is in
        ap (λ b. length (cond b (x ∷ sample (drawn d) xs) (sample (drawn d) xs))) is ∙ omega (arith, rest, fewer, some, left)
    go false is rest =
        let none : d.wanted ≤ next_number d.seed / 4294967296 % max 1 d.left = grind (arith, nat_tests) in
        let same : (drawn d).wanted ≡ d.wanted = ap (λ b. cond b (d.wanted - 1) d.wanted) is in
        ap (λ b. length (cond b (x ∷ sample (drawn d) xs) (sample (drawn d) xs))) is ∙ omega (arith, rest, same, none, below, left)
