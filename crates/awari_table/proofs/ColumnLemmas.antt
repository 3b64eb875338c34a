-- Columns, read and made longer.
use Rattle.std.proofs.Common.{◌≡◌, ℕ, ◌+◌, ◌-◌, ◌*◌, ◌/◌, ◌%◌, ◌<◌, ◌≤◌, ◌∙◌, zero, suc, List, [], ◌∷◌, ◌++◌, length, max, fold, get_or, Option, Some, None, IfSome, slice_get, ℤ, ap, sym, refl, subst, FitsSigned, w8, of_z, to_z, arith}
use Rattle.std.proofs.lemmas.Int.{to_z-of_z}
use Rattle.std.proofs.lemmas.Nat.{div-mul-add, mod-mul-add}
use Rattle.std.proofs.lemmas.List.{length-append}
use Rattle.std.proofs.lemmas.Option.{get_or_from_slice_get}
use Rattle.awari_table.specs.declared.images.Entry.{Entry}
use Rattle.awari_table.specs.Columns.{plan_of_code, row, rows}
use Rattle.awari_table.specs.Images.{greatest_dist}

-- an entry of the same three parts
same_entry : (v w : ℤ) (p q : Option ℕ) (d f : ℕ) → v ≡ w → p ≡ q → d ≡ f → (let e : Entry = record { value = v; plan = p; dist = d } in e) ≡ record { value = w; plan = q; dist = f }
same_entry v w p q d f a b c = rw (a, b, c)

plan_of_code-pit : (code : ℕ) → 1 ≤ code → plan_of_code code ≡ Some (code - 1)
plan_of_code-pit zero h = let no : ⊥ = omega (arith, h) in absurd no
plan_of_code-pit (suc pit) h = let e : suc pit - 1 ≡ pit = omega arith in rw e

-- what is read of a row with no plan, and of one with a plan
pub row_none : (v : ℤ) (tail code : ℕ) → FitsSigned w8 v → tail % 8 ≡ code → code ≡ 0 → (let e : Entry = record { value = to_z w8 (of_z w8 v); plan = None; dist = tail / 8 } in e) ≡ row v tail
row_none v tail code fits is none = same_entry _ _ _ _ _ _ (to_z-of_z w8 v fits) (sym (ap plan_of_code (is ∙ none))) refl

pub row_pit : (v : ℤ) (tail : ℕ) → FitsSigned w8 v → 1 ≤ tail % 8 → (let e : Entry = record { value = to_z w8 (of_z w8 v); plan = Some (tail % 8 - 1); dist = tail / 8 } in e) ≡ row v tail
row_pit v tail fits some = same_entry _ _ _ _ _ _ (to_z-of_z w8 v fits) (sym (plan_of_code-pit (tail % 8) some)) refl

-- the code of a plan
pub code_some : (plan : Option ℕ) (pit code : ℕ) → IfSome plan (λ x. x < 7) → plan ≡ Some pit → code ≡ pit + 1 → (code < 8) × (plan_of_code code ≡ plan)
code_some plan pit code low is made =
    let P : Option ℕ → Type 0 = λ p. IfSome p (λ x. x < 7) in
    let below : pit < 7 = subst P is low in
    let back : pit ≡ code - 1 = omega (arith, made) in
    (omega (arith, made), plan_of_code-pit code (omega (arith, made)) ∙ sym (is ∙ ap (λ n. Some n) back))

pub code_none : (plan : Option ℕ) (code : ℕ) → plan ≡ None → code ≡ 0 → (code < 8) × (plan_of_code code ≡ plan)
code_none plan code is made = (omega (arith, made), rw (made, is))

-- what a tail is read as
pub row_of_tail : (v : ℤ) (plan : Option ℕ) (dist code : ℕ) → code < 8 → plan_of_code code ≡ plan → row v (dist * 8 + code) ≡ record { value = v; plan = plan; dist = dist }
row_of_tail v plan dist code low is = same_entry _ _ _ _ _ _ refl (ap plan_of_code (mod-mul-add dist 8 code low) ∙ is) (div-mul-add dist 8 code low)

pub length-rows : (vs : List ℤ) (ts : List ℕ) → length vs ≡ length ts → length (rows vs ts) ≡ length vs
length-rows [] ts h = refl
length-rows (v ∷ vs) [] h = sym h
length-rows (v ∷ vs) (t ∷ ts) h = ap (λ n. suc n) (length-rows vs ts (omega (arith, h)))

pub rows-push : (vs : List ℤ) (ts : List ℕ) (v : ℤ) (t : ℕ) → length vs ≡ length ts → rows (vs ++ v ∷ []) (ts ++ t ∷ []) ≡ rows vs ts ++ row v t ∷ []
rows-push [] [] v t h = refl
rows-push [] (u ∷ ts) v t h = let no : ⊥ = omega (arith, h) in absurd no
rows-push (w ∷ vs) [] v t h = let no : ⊥ = omega (arith, h) in absurd no
rows-push (w ∷ vs) (u ∷ ts) v t h = ap (λ es. row w u ∷ es) (rows-push vs ts v t (omega (arith, h)))

-- the row at a rank
pub slice_get-rows : (vs : List ℤ) (ts : List ℕ) (i : ℕ) (v : ℤ) (t : ℕ) → length vs ≡ length ts → i < length vs → slice_get (rows vs ts) i ≡ Some (row (get_or vs i v) (get_or ts i t))
slice_get-rows [] ts i v t h low = let no : ⊥ = omega (arith, low) in absurd no
slice_get-rows (w ∷ vs) [] i v t h low = let no : ⊥ = omega (arith, h) in absurd no
slice_get-rows (w ∷ vs) (u ∷ ts) zero v t h low = refl
slice_get-rows (w ∷ vs) (u ∷ ts) (suc i) v t h low = slice_get-rows vs ts i v t (omega (arith, h)) (omega (arith, low))

-- the same of a list that the columns are seen as
pub length-seen : (vs : List ℤ) (ts : List ℕ) (es : List Entry) → length vs ≡ length ts → rows vs ts ≡ es → length es ≡ length vs
length-seen vs ts es h is = rw (← is) (length-rows vs ts h)

pub at_seen : (vs : List ℤ) (ts : List ℕ) (es : List Entry) (i : ℕ) (v : ℤ) (t : ℕ) (e : Entry) → length vs ≡ length ts → rows vs ts ≡ es → i < length es
    → v ≡ get_or vs i v → t ≡ get_or ts i t → e ≡ row v t → slice_get es i ≡ Some e
at_seen vs ts es i v t e h is low at_v at_t made =
    let within : i < length vs = omega (arith, low, length-seen vs ts es h is) in
    rw (← is, made) (slice_get-rows vs ts i v t h within ∙ ap (λ x. Some (row x (get_or ts i t))) (sym at_v) ∙ ap (λ x. Some (row v x)) (sym at_t))

pub value_seen : (vs : List ℤ) (ts : List ℕ) (es : List Entry) (i : ℕ) (v : ℤ) (d : Entry) → length vs ≡ length ts → rows vs ts ≡ es → i < length es
    → v ≡ get_or vs i v → v ≡ (get_or es i d).value
value_seen vs ts es i v d h is low at_v =
    let within : i < length vs = omega (arith, low, length-seen vs ts es h is) in
    rw (← is, get_or_from_slice_get (rows vs ts) i _ d (slice_get-rows vs ts i v 0 h within)) at_v

pub push_seen : (vs ws : List ℤ) (ts us : List ℕ) (es : List Entry) (e : Entry) (v : ℤ) (t : ℕ) → length vs ≡ length ts → rows vs ts ≡ es
    → ws ≡ vs ++ v ∷ [] → us ≡ ts ++ t ∷ [] → row v t ≡ e → rows ws us ≡ es ++ e ∷ []
push_seen vs ws ts us es e v t h is more_v more_t made = rw (more_v, more_t, ← is, ← made) (rows-push vs ts v t h)

rows-append : (vs ws : List ℤ) (ts us : List ℕ) → length vs ≡ length ts → rows (vs ++ ws) (ts ++ us) ≡ rows vs ts ++ rows ws us
rows-append [] ws [] us h = refl
rows-append [] ws (t ∷ ts) us h = let no : ⊥ = omega (arith, h) in absurd no
rows-append (v ∷ vs) ws [] us h = let no : ⊥ = omega (arith, h) in absurd no
rows-append (v ∷ vs) ws (t ∷ ts) us h = ap (λ es. row v t ∷ es) (rows-append vs ws ts us (omega (arith, h)))

-- columns behind columns
pub join_seen : (vs ws xs : List ℤ) (ts us ys : List ℕ) (es more : List Entry) → length vs ≡ length ts → rows vs ts ≡ es → rows ws us ≡ more
    → xs ≡ vs ++ ws → ys ≡ ts ++ us → rows xs ys ≡ es ++ more
join_seen vs ws xs ts us ys es more h is more_is all_v all_t = rw (all_v, all_t, ← is, ← more_is) (rows-append vs ws ts us h)

pub join_even : (vs ws xs : List ℤ) (ts us ys : List ℕ) → length vs ≡ length ts → length ws ≡ length us → xs ≡ vs ++ ws → ys ≡ ts ++ us → length xs ≡ length ys
join_even vs ws xs ts us ys h more all_v all_t = rw (all_v, all_t) (omega (arith, h, more, length-append vs ws, length-append ts us))

-- the distances are the upper bits of the tails
max_upper : (a t : ℕ) → max a t / 8 ≡ max (a / 8) (t / 8)
max_upper a t = omega arith

greatest_tail : (vs : List ℤ) (ts : List ℕ) (a : ℕ) → length vs ≡ length ts → fold (λ most t. max most t) a ts / 8 ≡ fold (λ most (e : Entry). max most e.dist) (a / 8) (rows vs ts)
greatest_tail [] [] a h = refl
greatest_tail [] (t ∷ ts) a h = let no : ⊥ = omega (arith, h) in absurd no
greatest_tail (v ∷ vs) [] a h = let no : ⊥ = omega (arith, h) in absurd no
greatest_tail (v ∷ vs) (t ∷ ts) a h =
    greatest_tail vs ts (max a t) (omega (arith, h)) ∙ ap (λ n. fold (λ most (e : Entry). max most e.dist) n (rows vs ts)) (max_upper a t)

pub greatest_seen : (vs : List ℤ) (ts : List ℕ) (es : List Entry) (most : ℕ) → length vs ≡ length ts → rows vs ts ≡ es → most ≡ fold (λ most t. max most t) 0 ts → most / 8 ≡ greatest_dist es
greatest_seen vs ts es most h is found = rw (found, ← is) (greatest_tail vs ts 0 h)
