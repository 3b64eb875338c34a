-- Lists by a number.
use Rattle.std.proofs.Common.{◌≡◌, ℕ, zero, suc, ◌+◌, ◌<◌, ◌≤◌, ◌≢◌, List, [], ◌∷◌, ◌++◌, length, get_or, set, refl, sym, ap, ◌∙◌, arith, map, Vec, ◌==◌, Bool, true, false, nat_lt, eqb-true, subst, length-set, get_or-set_same, get_or-set_other}
use Rattle.std.proofs.lemmas.Bool.Decides.{nat_tests}
use Rattle.awari_segments.specs.Lists.{dues_from, list_at, lists_of, with_put, without}

-- an empty list behind the others changes nothing
pub with_put-grow : (ls : List (List ℕ)) (k v : ℕ) → length ls ≤ k → with_put (ls ++ [] ∷ []) k v ≡ with_put ls k v
with_put-grow [] zero v h = refl
with_put-grow [] (suc k) v h = refl
with_put-grow (l ∷ ls) zero v h = absurd (omega arith)
with_put-grow (l ∷ ls) (suc k) v h = ap (λ xs. l ∷ xs) (with_put-grow ls k v (omega arith))

-- one is put behind a list that there is
pub with_put-set : (ls : List (List ℕ)) (k v : ℕ) → k < length ls → with_put ls k v ≡ set ls k (list_at ls k ++ v ∷ [])
with_put-set [] k v h = absurd (omega arith)
with_put-set (l ∷ ls) zero v h = refl
with_put-set (l ∷ ls) (suc k) v h = ap (λ xs. l ∷ xs) (with_put-set ls k v (omega arith))

-- what is put goes to its list alone
pub with_put-at : (ls : List (List ℕ)) (k v : ℕ) → list_at (with_put ls k v) k ≡ list_at ls k ++ v ∷ []
with_put-at [] zero v = refl
with_put-at [] (suc k) v = with_put-at [] k v
with_put-at (l ∷ ls) zero v = refl
with_put-at (l ∷ ls) (suc k) v = with_put-at ls k v

pub with_put-other : (ls : List (List ℕ)) (k v i : ℕ) → i ≢ k → list_at (with_put ls k v) i ≡ list_at ls i
with_put-other [] zero v zero h = absurd (h refl)
with_put-other [] zero v (suc i) h = refl
with_put-other [] (suc k) v zero h = refl
with_put-other [] (suc k) v (suc i) h = with_put-other [] k v i (λ e. h (ap suc e))
with_put-other (l ∷ ls) zero v zero h = absurd (h refl)
with_put-other (l ∷ ls) zero v (suc i) h = refl
with_put-other (l ∷ ls) (suc k) v zero h = refl
with_put-other (l ∷ ls) (suc k) v (suc i) h = with_put-other ls k v i (λ e. h (ap suc e))

-- ---- what vectors hold

pub lists_of-length : {Z : Type 0} → (vs : List (Vec ℕ Z)) → length (lists_of vs) ≡ length vs
lists_of-length [] = refl
lists_of-length (v ∷ vs) = ap suc (lists_of-length vs)

pub lists_of-push : {Z : Type 0} → (vs : List (Vec ℕ Z)) (v : Vec ℕ Z) → lists_of (vs ++ v ∷ []) ≡ lists_of vs ++ v.items ∷ []
lists_of-push [] v = refl
lists_of-push (w ∷ vs) v = ap (λ ls. w.items ∷ ls) (lists_of-push vs v)

pub lists_of-set : {Z : Type 0} → (vs : List (Vec ℕ Z)) (k : ℕ) (v : Vec ℕ Z) → lists_of (set vs k v) ≡ set (lists_of vs) k v.items
lists_of-set [] k v = refl
lists_of-set (w ∷ vs) zero v = refl
lists_of-set (w ∷ vs) (suc k) v = ap (λ ls. w.items ∷ ls) (lists_of-set vs k v)

pub lists_of-at : {Z : Type 0} → (vs : List (Vec ℕ Z)) (k : ℕ) (d : Vec ℕ Z) → k < length vs → list_at (lists_of vs) k ≡ (get_or vs k d).items
lists_of-at [] k d h = absurd (omega arith)
lists_of-at (w ∷ vs) zero d h = refl
lists_of-at (w ∷ vs) (suc k) d h = lists_of-at vs k d (omega arith)

-- a list grows by one
pub grown : {Z : Type 0} → (vs : List (Vec ℕ Z)) (v : Vec ℕ Z) (k x : ℕ) → v.items ≡ [] → length vs ≤ k → with_put (lists_of (vs ++ v ∷ [])) k x ≡ with_put (lists_of vs) k x
grown vs v k x empty high =
    ap (λ ls. with_put ls k x) (lists_of-push vs v ∙ ap (λ l. lists_of vs ++ l ∷ []) empty) ∙ with_put-grow (lists_of vs) k x (omega (arith, lists_of-length vs))

pub put_one : {Z : Type 0} → (vs : List (Vec ℕ Z)) (old new : Vec ℕ Z) (k x : ℕ) → k < length vs → old ≡ get_or vs k old → new.items ≡ old.items ++ x ∷ []
    → lists_of (set vs k new) ≡ with_put (lists_of vs) k x
put_one vs old new k x high read pushed =
    lists_of-set vs k new
    ∙ ap (set (lists_of vs) k) (pushed ∙ ap (λ l. l ++ x ∷ []) (ap (λ (v : Vec ℕ _). v.items) read ∙ sym (lists_of-at vs k old high)))
    ∙ sym (with_put-set (lists_of vs) k x (omega (arith, high, lists_of-length vs)))

-- there is nothing past the end
pub past_end : {Z : Type 0} → (vs : List (Vec ℕ Z)) (k : ℕ) → length vs ≤ k → list_at (lists_of vs) k ≡ []
past_end [] k h = refl
past_end (v ∷ vs) zero h = absurd (omega arith)
past_end (v ∷ vs) (suc k) h = past_end vs k (omega arith)

-- an empty list has no boards
pub dues_grown : {Z : Type 0} → (vs : List (Vec ℕ Z)) (v : Vec ℕ Z) (d : ℕ) → v.items ≡ [] → dues_from d (lists_of (vs ++ v ∷ [])) ≡ dues_from d (lists_of vs)
dues_grown [] v d empty = ap (λ (l : List ℕ). map (λ r. (d, r)) l ++ []) empty
dues_grown (w ∷ vs) v d empty = ap (λ fs. map (λ r. (d, r)) w.items ++ fs) (dues_grown vs v (suc d) empty)

-- a list that holds what it held
pub same_lists : {Z : Type 0} → (vs : List (Vec ℕ Z)) (old new : Vec ℕ Z) (k : ℕ) → k < length vs → old ≡ get_or vs k old → new.items ≡ old.items → lists_of (set vs k new) ≡ lists_of vs
same_lists [] old new k high read is = absurd (omega arith)
same_lists (w ∷ vs) old new zero high read is = ap (λ l. l ∷ lists_of vs) (is ∙ ap (λ (v : Vec ℕ _). v.items) read)
same_lists (w ∷ vs) old new (suc k) high read is = ap (λ ls. w.items ∷ ls) (same_lists vs old new k (omega arith) read is)

-- ---- lists that are emptied

-- the first k lists are empty
abbrev pub AreEmpty : {Z : Type 0} → List (Vec ℕ Z) → ℕ → Type 0
AreEmpty vs k = (i : ℕ) → i < k → list_at (lists_of vs) i ≡ []

pub empty_more : {Z : Type 0} → (vs : List (Vec ℕ Z)) (v : Vec ℕ Z) (k : ℕ) → k < length vs → v.items ≡ [] → AreEmpty vs k → AreEmpty (set vs k v) (k + 1)
empty_more vs v k high empty before i less = by (i == k) refl
  where
    differ : (a b : ℕ) → (a == b) ≡ false → a ≢ b
    differ a b e = grind (arith, nat_tests)

    by : (b : Bool) → (i == k) ≡ b → list_at (lists_of (set vs k v)) i ≡ []
    by true e =
        let same : i ≡ k = eqb-true i k e in
        subst (λ n. list_at (lists_of (set vs k v)) n ≡ []) (sym same)
        (lists_of-at (set vs k v) k v (omega (arith, high, length-set vs k v)) ∙ ap (λ (w : Vec ℕ _). w.items) (let here : get_or (set vs k v) k v ≡ v = rw get_or-set_same refl in here) ∙ empty)
    by false e =
        let ne = differ i k e in
        ap (λ ls. list_at ls i) (lists_of-set vs k v) ∙ (let there : get_or (set (lists_of vs) k v.items) i [] ≡ get_or (lists_of vs) i [] = rw get_or-set_other refl in there) ∙ before i (omega (arith, less, ne))

pub empty_all : {Z : Type 0} → (vs : List (Vec ℕ Z)) (k i : ℕ) → length vs ≤ k → AreEmpty vs k → list_at (lists_of vs) i ≡ []
empty_all vs k i high before = by (nat_lt i k) refl
  where
    below : (a b : ℕ) → nat_lt a b ≡ true → a < b
    below a b e = grind (arith, nat_tests)

    beyond : (a b : ℕ) → nat_lt a b ≡ false → b ≤ a
    beyond a b e = grind (arith, nat_tests)

    by : (b : Bool) → nat_lt i k ≡ b → list_at (lists_of vs) i ≡ []
    by true e = before i (below i k e)
    by false e = let out = beyond i k e in past_end vs i (omega (arith, out, high))

-- ---- a list that is given away

pub without_one : {Z : Type 0} → (vs : List (Vec ℕ Z)) (k : ℕ) (v : Vec ℕ Z) → k < length vs → v.items ≡ [] → lists_of (set vs k v) ≡ without (lists_of vs) k
without_one [] k v h empty = absurd (omega arith)
without_one (w ∷ vs) zero v h empty = ap (λ l. l ∷ lists_of vs) empty
without_one (w ∷ vs) (suc k) v h empty = ap (λ ls. w.items ∷ ls) (without_one vs k v (omega arith) empty)

pub without_none : {Z : Type 0} → (vs : List (Vec ℕ Z)) (k : ℕ) → length vs ≤ k → without (lists_of vs) k ≡ lists_of vs
without_none [] k h = refl
without_none (w ∷ vs) zero h = absurd (omega arith)
without_none (w ∷ vs) (suc k) h = ap (λ ls. w.items ∷ ls) (without_none vs k (omega arith))
