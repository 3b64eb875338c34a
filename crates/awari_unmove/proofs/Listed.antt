-- What a function gives at the numbers of a range, in their order.
use Rattle.std.proofs.Common.{◌≡◌, ℕ, zero, suc, ◌+◌, ◌-◌, ◌<◌, ◌≤◌, ◌⊎◌, ⊎_elim, inl, inr, List, [], ◌∷◌, ◌++◌, length, length-append, Option, Some, None, Contains, refl, sym, ap, ◌∙◌, subst, subst₂, arith}
use Rattle.std.specs.List.{All, AllPairs, cons_option}
use Rattle.std.proofs.lemmas.Bool.{cases_eq, cases_lt}
use Rattle.std.proofs.lemmas.List.{get_or_append_left}
use Rattle.std.proofs.Math.Seq.{get_or-append_right}
use Rattle.std.proofs.lemmas.List.Elements.{Contains-push, Contains-push_cases, Contains-append_cases, Contains-append_left, Contains-append_right, Contains-get_or}
use Rattle.std.proofs.lemmas.List.Kept.{AllPairs-cons}
use Rattle.awari_unmove.specs.Undoing.{listed}

length-option : {E : Type 0} (o : Option E) (xs : List E) (n : ℕ) → length xs ≤ n → length (cons_option o xs) ≤ suc n
length-option None xs n h = omega arith
length-option (Some e) xs n h = omega arith

pub length-listed : {E : Type 0} (f : ℕ → Option E) (n t : ℕ) → length (listed f t n) ≤ n
unfolding listed
length-listed f zero t = omega arith
length-listed f (suc n) t = length-option (f t) (listed f (t + 1) n) n (length-listed f n (t + 1))

pub listed-some : {E : Type 0} (f : ℕ → Option E) (t n : ℕ) (e : E) → f t ≡ Some e → listed f t (n + 1) ≡ e ∷ listed f (t + 1) n
unfolding listed
listed-some f t n e here = let more : n + 1 ≡ suc n = omega arith in rw more (ap (λ o. cons_option o (listed f (t + 1) n)) here)

pub listed-none : {E : Type 0} (f : ℕ → Option E) (t n : ℕ) → f t ≡ None → listed f t (n + 1) ≡ listed f (t + 1) n
unfolding listed
listed-none f t n here = let more : n + 1 ≡ suc n = omega arith in rw more (ap (λ o. cons_option o (listed f (t + 1) n)) here)

pub listed-skips : {E : Type 0} (f : ℕ → Option E) (m t n : ℕ) → ((s : ℕ) → t ≤ s → s < t + m → f s ≡ None) → listed f t (m + n) ≡ listed f (t + m) n
listed-skips f zero t n none = let a : 0 + n ≡ n = omega arith in let b : t + 0 ≡ t = omega arith in rw (a, b) refl
listed-skips f (suc m) t n none =
    let a : suc m + n ≡ (m + n) + 1 = omega arith in
    let b : t + suc m ≡ (t + 1) + m = omega arith in
    rw (a, b) (listed-none f t (m + n) (none t (omega arith) (omega arith)) ∙ listed-skips f m (t + 1) n (λ s from to. none s (omega arith) (omega arith)))

Contains-cons_cases : {E : Type 0} (x : E) (xs : List E) (y : E) → Contains (x ∷ xs) y → (x ≡ y) ⊎ Contains xs y
Contains-cons_cases x xs y has =
    ⊎_elim (λ first. ⊎_elim (λ none. absurd (omega (arith, none.1))) inl (Contains-push_cases [] x y first)) inr (Contains-append_cases (x ∷ []) xs y has)

Contains-option_cases : {E : Type 0} (o : Option E) (xs : List E) (e : E) → Contains (cons_option o xs) e → (o ≡ Some e) ⊎ Contains xs e
Contains-option_cases None xs e has = inr has
Contains-option_cases (Some a) xs e has = ⊎_elim (λ same. inl (ap Some same)) inr (Contains-cons_cases a xs e has)

Contains-option_first : {E : Type 0} (o : Option E) (xs : List E) (e : E) → o ≡ Some e → Contains (cons_option o xs) e
Contains-option_first o xs e here = subst (λ o. Contains (cons_option o xs) e) (sym here) (Contains-append_left (e ∷ []) xs e (Contains-push [] e))

Contains-option_later : {E : Type 0} (o : Option E) (xs : List E) (e : E) → Contains xs e → Contains (cons_option o xs) e
Contains-option_later None xs e has = has
Contains-option_later (Some a) xs e has = Contains-append_right (a ∷ []) xs e has

AllPairs-option : {E : Type 0} (R : E → E → Type 0) (o : Option E) (xs : List E) → ((a : E) → o ≡ Some a → All (R a) xs) → AllPairs R xs → AllPairs R (cons_option o xs)
AllPairs-option R None xs first later = later
AllPairs-option R (Some a) xs first later = AllPairs-cons R a xs (first a refl) later

-- an element of the list is given somewhere
pub at-from_Contains : {E : Type 0} (f : ℕ → Option E) (n t : ℕ) (e : E) → Contains (listed f t n) e → (s : ℕ) × (t ≤ s) × (s < t + n) × (f s ≡ Some e)
unfolding listed
at-from_Contains f zero t e has = absurd (omega (arith, has.1))
at-from_Contains f (suc n) t e has =
    ⊎_elim (λ here. (t, omega arith, omega arith, here))
    (λ later. let at = at-from_Contains f n (t + 1) e later in (at.0, omega (arith, at.1), omega (arith, at.2), at.3))
    (Contains-option_cases (f t) (listed f (t + 1) n) e has)

pub Contains-from_at : {E : Type 0} (f : ℕ → Option E) (n t s : ℕ) (e : E) → t ≤ s → s < t + n → f s ≡ Some e → Contains (listed f t n) e
unfolding listed
Contains-from_at f zero t s e from to here = absurd (omega arith)
Contains-from_at f (suc n) t s e from to here =
    ⊎_elim (λ same. Contains-option_first (f t) (listed f (t + 1) n) e (subst (λ m. f m ≡ Some e) (sym same) here))
    (λ other. Contains-option_later (f t) (listed f (t + 1) n) e (Contains-from_at f n (t + 1) s e (omega arith) (omega arith) here))
    (cases_eq t s)

pub AllPairs-listed : {E : Type 0} (R : E → E → Type 0) (f : ℕ → Option E) (n t : ℕ) → ((s u : ℕ) (a b : E) → s < u → f s ≡ Some a → f u ≡ Some b → R a b) → AllPairs R (listed f t n)
unfolding listed
AllPairs-listed R f zero t before = λ i j d h k. absurd (omega arith)
AllPairs-listed R f (suc n) t before =
    AllPairs-option R (f t) (listed f (t + 1) n)
    (λ a here k d inside.
    let at = at-from_Contains f n (t + 1) _ (Contains-get_or (listed f (t + 1) n) k d inside) in
    before t at.0 a _ (omega (arith, at.1)) here at.3)
    (AllPairs-listed R f n (t + 1) before)

pub AllPairs-append : {E : Type 0} (R : E → E → Type 0) (xs ys : List E) → AllPairs R xs → AllPairs R ys → ((a b : E) → Contains xs a → Contains ys b → R a b) → AllPairs R (xs ++ ys)
AllPairs-append R xs ys one two between i j d lt inside =
    let long = length-append xs ys in
    ⊎_elim
    (λ low. subst₂ R (sym (get_or_append_left xs ys d i (omega arith))) (sym (get_or_append_left xs ys d j low)) (one i j d lt low))
    (λ high. ⊎_elim
    (λ left. subst₂ R (sym (get_or_append_left xs ys d i left)) (sym (get_or-append_right xs ys j d high)) (between _ _ (Contains-get_or xs i d left) (Contains-get_or ys (j - length xs) d (omega arith))))
    (λ right. subst₂ R (sym (get_or-append_right xs ys i d right)) (sym (get_or-append_right xs ys j d high)) (two (i - length xs) (j - length xs) d (omega arith) (omega arith)))
    (cases_lt i (length xs)))
    (cases_lt j (length xs))
