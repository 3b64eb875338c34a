-- Words are joined a word or two at a time.
use Rattle.std.proofs.Common.{◌≡◌, ◌<◌, ◌∷◌, ◌++◌, ◌∙◌, [], ℕ, List, Result, Ok, Err, true, false, ap, codes, get_or, length, map, refl, subst, sym, arith, rules}
use Rattle.std.specs.Prelude.{IfOk}
use Rattle.std.specs.Str.{bytes_eq}
use Rattle.awari_words.specs.Joined.{is_joined, joined}

pub joined_next : {T : Type 0} (f : T → List ℕ) → (word bytes : List ℕ) (after : List T) (value : T) (others : List T)
    → bytes ≡ word ++ (codes "=" ++ f value) → after ≡ value ∷ others → bytes_eq word (codes "--") ≡ false → is_joined word (f value) ≡ true
    → bytes ∷ joined (map f others) ≡ joined (word ∷ map f after)
unfolding joined
joined_next f word bytes after value others is split option both = rw (split, is, option, both) refl

pub kept_next : {T : Type 0} (f : T → List ℕ) → (word bytes : List ℕ) (after : List T) (value : T) (others : List T)
    → bytes ≡ word → after ≡ value ∷ others → bytes_eq word (codes "--") ≡ false → is_joined word (f value) ≡ false
    → bytes ∷ joined (map f after) ≡ joined (word ∷ map f after)
unfolding joined
kept_next f word bytes after value others is split option both = rw (split, is, option, both) refl

pub kept_last : {T : Type 0} (f : T → List ℕ) → (word bytes : List ℕ) (after : List T) → bytes ≡ word → length after ≡ 0
    → bytes ∷ joined (map f after) ≡ joined (word ∷ map f after)
unfolding joined
kept_last f word bytes [] is none = rw (is) refl
kept_last f word bytes (x ∷ xs) is none = absurd (omega arith)

ended : {T : Type 0} (f : T → List ℕ) → (word : List ℕ) (after : List T) → bytes_eq word (codes "--") ≡ true → joined (word ∷ map f after) ≡ word ∷ map f after
unfolding joined
ended f word [] ends = refl
ended f word (x ∷ xs) ends = rw ends refl

as_is : {T : Type 0} (f : T → List ℕ) → (rest : List T) (word : T) (text : List ℕ) → 0 < length rest → word ≡ get_or rest 0 word → text ≡ f word → bytes_eq text (codes "--") ≡ true → joined (map f rest) ≡ map f rest
as_is f [] word text some first is ends = absurd (omega (arith, some))
as_is f (x ∷ xs) word text some first is ends = ended f (f x) xs (subst (λ (t : List ℕ). bytes_eq t (codes "--") ≡ true) (is ∙ ap f first) ends)

-- what is left from a word `--` on stays as it is
pub left_as_is : {T A E : Type 0} (f : T → List ℕ) (bytes : A → List (List ℕ)) (r : Result A E) (all words : List (List ℕ)) (rest : List T) (word : T) (text : List ℕ)
    → 0 < length rest → word ≡ get_or rest 0 word → text ≡ f word → bytes_eq text (codes "--") ≡ true → all ++ joined (map f rest) ≡ words
    → IfOk r (λ a. bytes a ≡ all ++ map f rest) → IfOk r (λ a. bytes a ≡ words)
left_as_is f bytes (Err e) all words rest word text some first is ends so_far found = tt
left_as_is f bytes (Ok a) all words rest word text some first is ends so_far found =
    found ∙ ap (λ (l : List (List ℕ)). all ++ l) (sym (as_is f rest word text some first is ends)) ∙ so_far

pub none_left : {T : Type 0} (f : T → List ℕ) → (all words : List (List ℕ)) (rest : List T) → all ++ joined (map f rest) ≡ words → length rest ≡ 0 → all ≡ words
unfolding joined
none_left f all words [] is none = search rules
none_left f all words (x ∷ xs) is none = absurd (omega arith)
