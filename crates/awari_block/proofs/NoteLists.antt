-- Lists of notes: which are in them, and what is heard at a pit.
use Rattle.std.proofs.Common.{◌≡◌, ℕ, ◌⊎◌, inl, inr, Bool, true, false, cond, ◌==◌, ◌||◌, List, [], ◌∷◌, ◌++◌, All, refl, sym, ap, subst, ◌∙◌, eqb-true, arith, ◌≤◌, if◌then◌else◌, max, count_by}
use Rattle.std.proofs.lemmas.List.Elements.{All-cons, All-nil, All-tail}
use Rattle.awari_block.specs.Notes.{Has, is_heard_at, is_won, is_won_at, far_of}
use Rattle.awari_block.specs.Part.{notes_for}
use Rattle.awari_block.specs.declared.notes.Note.{Note}
use Rattle.std.proofs.lemmas.Bool.{cases_lt, false≢true}
use Rattle.std.proofs.lemmas.Bool.Decides.{nat_tests}

pub Has-append_left : {A : Type 0} → (xs ys : List A) (m : A) → Has xs m → Has (xs ++ ys) m
Has-append_left [] ys m h = absurd h
Has-append_left (x ∷ xs) ys m (inl e) = inl e
Has-append_left (x ∷ xs) ys m (inr h) = inr (Has-append_left xs ys m h)

pub Has-append_right : {A : Type 0} → (xs ys : List A) (m : A) → Has ys m → Has (xs ++ ys) m
Has-append_right [] ys m h = h
Has-append_right (x ∷ xs) ys m h = inr (Has-append_right xs ys m h)

pub Has-append_cases : {A : Type 0} → (xs ys : List A) (m : A) → Has (xs ++ ys) m → Has xs m ⊎ Has ys m
Has-append_cases [] ys m h = inr h
Has-append_cases (x ∷ xs) ys m (inl e) = inl (inl e)
Has-append_cases (x ∷ xs) ys m (inr h) = elim (Has-append_cases xs ys m h) [ inl left ↦ inl (inr left) | inr right ↦ inr right ]

-- what holds of each note of a list holds of all, and back
pub all_has : {A : Type 0} → (P : A → Type 0) (xs : List A) → ((x : A) → Has xs x → P x) → All P xs
all_has P [] each = All-nil P
all_has P (m ∷ notes) each = All-cons P m notes (each m (inl refl)) (all_has P notes (λ k has. each k (inr has)))

pub has_all : {A : Type 0} → (P : A → Type 0) (xs : List A) → All P xs → (x : A) → Has xs x → P x
has_all P [] all x has = absurd has
has_all P (y ∷ ys) all x (inl is) = subst P (sym is) (all 0 y (omega arith))
has_all P (y ∷ ys) all x (inr has) = has_all P ys (All-tail P y ys all) x has

-- a note for a board is a note, and is for it
pub Has-notes_for : (r : ℕ) (notes : List Note) (m : Note) → Has (notes_for r notes) m → Has notes m × (m.target ≡ r)
Has-notes_for r [] m h = absurd h
Has-notes_for r (k ∷ notes) m h = at (k.target == r) refl h (Has-notes_for r notes m)
  where
    at : (b : Bool) → (k.target == r) ≡ b → Has (cond b (k ∷ notes_for r notes) (notes_for r notes)) m → (Has (notes_for r notes) m → Has notes m × (m.target ≡ r))
        → Has (k ∷ notes) m × (m.target ≡ r)
    at true e (inl same) rest = (inl same, ap (λ (j : Note). j.target) same ∙ eqb-true k.target r e)
    at true e (inr has) rest = let found = rest has in (inr found.0, found.1)
    at false e has rest = let found = rest has in (inr found.0, found.1)

-- what is heard at a pit is heard by a note
pub heard_note : (notes : List Note) (x : ℕ) → is_heard_at notes x ≡ true → (m : Note) × Has notes m × (m.pit ≡ x)
heard_note [] x h = absurd (cc)
heard_note (k ∷ notes) x h = first (k.pit == x) refl (heard_note notes x)
  where
    first : (a : Bool) → (k.pit == x) ≡ a → (is_heard_at notes x ≡ true → (m : Note) × Has notes m × (m.pit ≡ x)) → (m : Note) × Has (k ∷ notes) m × (m.pit ≡ x)
    first true e other = (k, inl refl, eqb-true k.pit x e)
    first false e other = let rest = other (subst (λ b. (b || is_heard_at notes x) ≡ true) e h) in (rest.0, inr rest.1, rest.2)

-- a note among these is heard at its pit
pub Has-heard : (notes : List Note) (m : Note) → Has notes m → is_heard_at notes m.pit ≡ true
Has-heard [] m h = absurd h
Has-heard (k ∷ notes) m (inl e) = subst (λ (j : Note). is_heard_at (j ∷ notes) m.pit ≡ true) e (grind (arith, nat_tests))
Has-heard (k ∷ notes) m (inr h) = let rest = Has-heard notes m h in grind (arith, nat_tests)

-- what is heard at no note counts none
pub count-unheard : (notes : List Note) (x : ℕ) → is_heard_at notes x ≡ false → count_by (λ (m : Note). m.pit == x) notes ≡ 0
count-unheard [] x h = refl
count-unheard (k ∷ notes) x h = let rest = count-unheard notes x in grind (arith, nat_tests)

-- what is heard at no note is not heard to be won
pub unwon_at : (notes : List Note) (x : ℕ) → is_heard_at notes x ≡ false → is_won_at notes x ≡ false
unwon_at [] x h = refl
unwon_at (k ∷ notes) x h = let rest = unwon_at notes x in grind (arith, nat_tests)

-- a Won note is not farther than the farthest
pub far_of-won : (notes : List Note) (m : Note) → Has notes m → is_won m.kind ≡ true → m.dist ≤ far_of notes
far_of-won [] m h won = absurd h
far_of-won (k ∷ notes) m (inl e) won = subst (λ (j : Note). m.dist ≤ far_of (j ∷ notes)) e (grind (arith, won))
far_of-won (k ∷ notes) m (inr h) won = let rest = far_of-won notes m h won in grind arith

-- the farthest distance is that of a note, or 0
pub far_attained : (notes : List Note) → (far_of notes ≡ 0) ⊎ ((m : Note) × Has notes m × (m.dist ≡ far_of notes))
far_attained [] = inl refl
far_attained (k ∷ notes) = elim (far_attained notes) [
  | inl none ↦ elim (either (is_won k.kind) k.dist (far_of notes)) [
    | inl rest ↦ inl (rest ∙ none)
    | inr first ↦ inr (k, inl refl, sym first)
  ]
  | inr some ↦ elim (either (is_won k.kind) k.dist (far_of notes)) [
    | inl rest ↦ inr (some.0, inr some.1, some.2 ∙ sym rest)
    | inr first ↦ inr (k, inl refl, sym first)
  ]
]
  where
    either : (b : Bool) (d far : ℕ) → ((if b then max d far else far) ≡ far) ⊎ ((if b then max d far else far) ≡ d)
    either false d far = inl refl
    either true d far = elim (cases_lt d far) [ inl lt ↦ inl (omega (arith, lt)) | inr ge ↦ inr (omega (arith, ge)) ]

-- what is heard to be won has a Won note
pub won_note : (notes : List Note) (x : ℕ) → is_won_at notes x ≡ true → (m : Note) × Has notes m × (m.pit ≡ x) × (is_won m.kind ≡ true)
won_note [] x h = absurd (cc)
won_note (k ∷ notes) x h = first (k.pit == x) (is_won k.kind) refl refl (won_note notes x)
  where
    first : (a b : Bool) → (k.pit == x) ≡ a → is_won k.kind ≡ b
        → (is_won_at notes x ≡ true → (m : Note) × Has notes m × (m.pit ≡ x) × (is_won m.kind ≡ true))
        → (m : Note) × Has (k ∷ notes) m × (m.pit ≡ x) × (is_won m.kind ≡ true)
    first true true e f other = (k, inl refl, eqb-true k.pit x e, f)
    first true false e f other = let rest = other (grind (arith, nat_tests)) in (rest.0, inr rest.1, rest.2, rest.3)
    first false b e f other = let rest = other (grind (arith, nat_tests)) in (rest.0, inr rest.1, rest.2, rest.3)

-- notes that were there are there still
pub has_more : (r : ℕ) (m k : Note) (notes : List Note) → Has (notes_for r notes) k → Has (notes_for r (m ∷ notes)) k
has_more r m k notes has = at (m.target == r)
  where
    at : (b : Bool) → Has (cond b (m ∷ notes_for r notes) (notes_for r notes)) k
    at true = inr has
    at false = has

-- a note that is there was there, or is the new one
pub had_before : (r : ℕ) (m k : Note) (notes : List Note) → Has (notes_for r (m ∷ notes)) k → Has (notes_for r notes) k ⊎ ((k ≡ m) × (m.target ≡ r))
had_before r m k notes = at (m.target == r) refl
  where
    at : (b : Bool) → (m.target == r) ≡ b → Has (cond b (m ∷ notes_for r notes) (notes_for r notes)) k → Has (notes_for r notes) k ⊎ ((k ≡ m) × (m.target ≡ r))
    at true e (inl same) = inr (same, eqb-true m.target r e)
    at true e (inr has) = inl has
    at false e has = inl has

pub has_for : (rank : ℕ) (notes : List Note) (m : Note) → Has notes m → m.target ≡ rank → Has (notes_for rank notes) m
has_for rank [] m has is = absurd has
has_for rank (k ∷ notes) m has is = at (k.target == rank) refl (λ rest. has_for rank notes m rest is) has
  where
    equal : (a b : ℕ) → a ≡ b → (a == b) ≡ true
    equal a b e = grind (arith, nat_tests)

    at : (b : Bool) → (k.target == rank) ≡ b → (Has notes m → Has (notes_for rank notes) m) → Has (k ∷ notes) m → Has (cond b (k ∷ notes_for rank notes) (notes_for rank notes)) m
    at true e more (inl same) = inl same
    at true e more (inr rest) = inr (more rest)
    at false e more (inl same) = absurd (false≢true (sym e ∙ equal k.target rank (ap (λ (n : Note). n.target) (sym same) ∙ is)))
    at false e more (inr rest) = more rest
