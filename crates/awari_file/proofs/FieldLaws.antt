-- What holds of each field: it takes its bytes and no others, and what stands behind them doesn't matter.
use Rattle.std.proofs.Common.{◌≡◌, ℕ, ◌+◌, ◌≤◌, ◌⊎◌, Bool, true, false, cond, ltb, List, [], ◌++◌, length, take, drop, Result, Ok, Err, refl, sym, ap, subst, ◌∙◌, arith, inl, inr}
use Rattle.std.proofs.lemmas.Bool.{cases_lt, ltb-false, le-ltb, lt-ltb}
use Rattle.std.proofs.lemmas.List.{length-append, length-drop, take-append-le, drop-append-le, nil_from_length, append-nil, take-append-drop, length-take}
use Rattle.awari_file.specs.declared.faults.FileFault.{FileFault}
use Rattle.awari_file.specs.Reading.{◌>>=◌, field, IsOwn}

-- the value of a step that did not fail
pub bind_ok : {A B : Type 0} (r : Result A FileFault) (f : A → Result B FileFault) (y : B) → (r >>= f) ≡ Ok y → (x : A) × (r ≡ Ok x) × (f x ≡ Ok y)
bind_ok (Ok x) f y e = (x, refl, e)
bind_ok (Err d) f y e = absurd cc

-- a test that did not fail
pub guard_ok : {A : Type 0} (b : Bool) (d : FileFault) (r : Result A FileFault) (y : A) → cond b (Err d) r ≡ Ok y → (b ≡ false) × (r ≡ Ok y)
guard_ok true d r y e = absurd cc
guard_ok false d r y e = (refl, e)

abbrev pub Reader : Type 0 → Type 0
Reader Y = FileFault → List ℕ → Result (Y × List ℕ) FileFault

-- the same with more bytes behind
abbrev pub followed_by : {Y : Type 0} → List ℕ → Result (Y × List ℕ) FileFault → Result (Y × List ℕ) FileFault
followed_by more read = read >>= λ x. Ok (x.0, x.1 ++ more)

pub record IsField (Y : Type 0) (len : ℕ) (f : Reader Y) : Type 0 where
  pub takes : (short : FileFault) (bytes : List ℕ) (x : Y × List ℕ) → f short bytes ≡ Ok x → length x.1 + len ≡ length bytes
  pub whole : (s t : FileFault) (bytes more : List ℕ) → len ≤ length bytes → f t (bytes ++ more) ≡ followed_by more (f s bytes)
  -- a fault is that of missing bytes, or one of the field's own, which stays whatever follows
  pub early : (s t e : FileFault) (bytes more : List ℕ) → f s bytes ≡ Err e → ((e ≡ s) × (f t bytes ≡ Err t)) ⊎ (IsOwn e × (f t (bytes ++ more) ≡ Err e))

made_followed : {Y : Type 0} (r : Result Y FileFault) (rest more : List ℕ) → (r >>= λ y. Ok (y, rest ++ more)) ≡ followed_by more (r >>= λ y. Ok (y, rest))
made_followed (Ok y) rest more = refl
made_followed (Err e) rest more = refl

field-whole : {Y : Type 0} (n : ℕ) (made : List ℕ → Result Y FileFault) (s t : FileFault) (bytes more : List ℕ) → n ≤ length bytes → field n made t (bytes ++ more) ≡ followed_by more (field n made s bytes)
field-whole n made s t bytes more long =
    let a : ltb (length bytes) n ≡ false = le-ltb _ _ long in
    let b : ltb (length (bytes ++ more)) n ≡ false = le-ltb _ _ (omega (arith, length-append bytes more)) in
    rw (a, b, take-append-le n bytes more long, drop-append-le n bytes more long) (made_followed (made (take n bytes)) (drop n bytes) more)

short_first : {A : Type 0} (s e : FileFault) (r : Result A FileFault) (b : Bool) → b ≡ true → cond b (Err s) r ≡ Err e → e ≡ s
short_first s e r true h fault = cc
short_first s e r false h fault = absurd cc

made_err : {A B : Type 0} (r : Result A FileFault) (g : A → B) (e : FileFault) → (r >>= λ y. Ok (g y)) ≡ Err e → r ≡ Err e
made_err (Ok x) g e h = absurd cc
made_err (Err d) g e h = cc

guard_err : {A : Type 0} (b : Bool) (d e : FileFault) (r : Result A FileFault) → b ≡ false → cond b (Err d) r ≡ Err e → r ≡ Err e
guard_err true d e r h fault = absurd cc
guard_err false d e r h fault = fault

abbrev pub MakesOwn : {Y : Type 0} → (List ℕ → Result Y FileFault) → Type 0
MakesOwn made = (bytes : List ℕ) (e : FileFault) → made bytes ≡ Err e → IsOwn e

field-early : {Y : Type 0} (n : ℕ) (made : List ℕ → Result Y FileFault) → MakesOwn made → (s t e : FileFault) (bytes more : List ℕ) → field n made s bytes ≡ Err e → ((e ≡ s) × (field n made t bytes ≡ Err t)) ⊎ (IsOwn e × (field n made t (bytes ++ more) ≡ Err e))
field-early n made own s t e bytes more fault =
    elim (cases_lt (length bytes) n) [
      | inl lt ↦ inl (short_first s e (made (take n bytes) >>= λ y. Ok (y, drop n bytes)) (ltb (length bytes) n) (lt-ltb _ _ lt) fault, rw (lt-ltb _ _ lt) refl)
      | inr le ↦ inr (
        own (take n bytes) e (made_err (made (take n bytes)) (λ y. (y, drop n bytes)) e (guard_err (ltb (length bytes) n) s e (made (take n bytes) >>= λ y. Ok (y, drop n bytes)) (le-ltb _ _ le) fault)),
        field-whole n made s t bytes more le ∙ ap (followed_by more) fault,
      )
    ]

abbrev done : {A : Type 0} → A → Result A FileFault
done x = Ok x

pub ok_is : {A : Type 0} (x y : A) → done x ≡ done y → x ≡ y
ok_is x y e = cc

abbrev pub fails : {A : Type 0} → FileFault → Result A FileFault
fails e = Err e

pub err_is : {A : Type 0} (d e : FileFault) → fails {A = A} d ≡ fails e → d ≡ e
err_is d e h = cc

pub field-is : (Y : Type 0) (n : ℕ) (made : List ℕ → Result Y FileFault) → MakesOwn made → IsField Y n (field n made)
field-is Y n made own = record {
  takes = λ short bytes x e.
      let g = guard_ok (ltb (length bytes) n) short (made (take n bytes) >>= λ y. Ok (y, drop n bytes)) x e in
      let b = bind_ok (made (take n bytes)) (λ y. Ok (y, drop n bytes)) x g.1 in
      let rest : drop n bytes ≡ x.1 = ap (λ (p : Y × List ℕ). p.1) (ok_is (b.0, drop n bytes) x b.2) in
      omega (arith, ltb-false _ _ g.0, length-drop n bytes, ap length rest);
  whole = λ s t bytes more long. field-whole n made s t bytes more long;
  early = λ s t e bytes more fault. field-early n made own s t e bytes more fault;
}

-- a field that takes nothing
pub nothing-is : (Y : Type 0) (y : Y) → IsField Y 0 (λ s bytes. Ok (y, bytes))
nothing-is Y y = record {
  takes = λ short bytes x e. let rest : bytes ≡ x.1 = ap (λ (p : Y × List ℕ). p.1) (ok_is (y, bytes) x e) in omega (arith, ap length rest);
  whole = λ s t bytes more long. refl;
  early = λ s t e bytes more fault. absurd cc;
}

then-whole : (Y Z : Type 0) (a b : ℕ) (f : Reader Y) (g : Y → Reader Z) → IsField Y a f → ((y : Y) → IsField Z b (g y))
    → (s t : FileFault) (bytes more : List ℕ) → a + b ≤ length bytes → (r : Result (Y × List ℕ) FileFault) → f s bytes ≡ r
    → (f t (bytes ++ more) >>= λ x. g x.0 t x.1) ≡ followed_by more (f s bytes >>= λ x. g x.0 s x.1)
then-whole Y Z a b f g first second s t bytes more long (Ok x) is =
    let one : f t (bytes ++ more) ≡ Ok (x.0, x.1 ++ more) = first.whole s t bytes more (omega arith) ∙ ap (followed_by more) is in
    let left = first.takes s bytes x is in
    rw (one, is) ((second x.0).whole s t x.1 more (omega (arith, left)))
then-whole Y Z a b f g first second s t bytes more long (Err e) is =
    let one : f t (bytes ++ more) ≡ Err e = first.whole s t bytes more (omega arith) ∙ ap (followed_by more) is in
    rw (one, is) refl

-- what a field makes of its bytes does not go by the fault for missing ones
same_bytes : (Y : Type 0) (n : ℕ) (f : Reader Y) → IsField Y n f → (s t : FileFault) (bytes : List ℕ) (x : Y × List ℕ) → f s bytes ≡ Ok x → f t bytes ≡ Ok x
same_bytes Y n f is s t bytes x h =
    let taken = is.takes s bytes x h in
    ap (f t) (sym (append-nil bytes)) ∙ is.whole s t bytes [] (omega (arith, taken)) ∙ ap (followed_by []) h ∙ ap (λ (rest : List ℕ). Ok (x.0, rest)) (append-nil x.1)

then-early : (Y Z : Type 0) (a b : ℕ) (f : Reader Y) (g : Y → Reader Z) → IsField Y a f → ((y : Y) → IsField Z b (g y))
    → (s t e : FileFault) (bytes more : List ℕ) → (f s bytes >>= λ x. g x.0 s x.1) ≡ Err e → (r : Result (Y × List ℕ) FileFault) → f s bytes ≡ r
    → ((e ≡ s) × ((f t bytes >>= λ x. g x.0 t x.1) ≡ Err t)) ⊎ (IsOwn e × ((f t (bytes ++ more) >>= λ x. g x.0 t x.1) ≡ Err e))
then-early Y Z a b f g first second s t e bytes more fault (Ok x) is =
    let left = first.takes s bytes x is in
    let one : f t (bytes ++ more) ≡ Ok (x.0, x.1 ++ more) = first.whole s t bytes more (omega (arith, left)) ∙ ap (followed_by more) is in
    let two : g x.0 s x.1 ≡ Err e = rw is at fault in
    let here : f t bytes ≡ Ok x = same_bytes Y a f first s t bytes x is in
    rw (one, here) ((second x.0).early s t e x.1 more two)
then-early Y Z a b f g first second s t e bytes more fault (Err d) is =
    let same : d ≡ e = err_is {A = Z × List ℕ} d e (rw is at fault) in
    elim (first.early s t d bytes more is) [
      | inl short ↦ inl (sym same ∙ short.0, rw short.1 refl)
      | inr one ↦ inr (subst IsOwn same one.0, rw (one.1, same) refl)
    ]

-- one field after another
pub then-is : (Y Z : Type 0) (a b : ℕ) (f : Reader Y) (g : Y → Reader Z) → IsField Y a f → ((y : Y) → IsField Z b (g y)) → IsField Z (a + b) (λ s bytes. f s bytes >>= λ x. g x.0 s x.1)
then-is Y Z a b f g first second = record {
  takes = λ short bytes x e.
      let one = bind_ok (f short bytes) (λ y. g y.0 short y.1) x e in
      omega (arith, first.takes short bytes one.0 one.1, (second one.0.0).takes short one.0.1 x one.2);
  whole = λ s t bytes more long. then-whole Y Z a b f g first second s t bytes more long (f s bytes) refl;
  early = λ s t e bytes more fault. then-early Y Z a b f g first second s t e bytes more fault (f s bytes) refl;
}

-- the bytes that a field took, and what it makes of them before any others
pub record Took (Y : Type 0) (f : Reader Y) (t : FileFault) (bytes : List ℕ) (y : Y) (rest : List ℕ) : Type 0 where
  pub front : List ℕ
  pub parts : bytes ≡ front ++ rest
  pub again : (more : List ℕ) → f t (front ++ more) ≡ Ok (y, more)

pub took : (Y : Type 0) (n : ℕ) (f : Reader Y) → IsField Y n f → (s t : FileFault) (bytes : List ℕ) (x : Y × List ℕ) → f s bytes ≡ Ok x → Took Y f t bytes x.0 x.1
took Y n f is s t bytes x h =
    let front = take n bytes in
    let rest = drop n bytes in
    let taken = is.takes s bytes x h in
    let size : n ≤ length front = omega (arith, length-take n bytes, taken) in
    let whole : followed_by rest (f s front) ≡ Ok x = sym (is.whole s s front rest size) ∙ ap (f s) (take-append-drop n bytes) ∙ h in
    let y = bind_ok (f s front) (λ z. Ok (z.0, z.1 ++ rest)) x whole in
    let over : y.0.1 ≡ [] = nil_from_length y.0.1 (omega (arith, is.takes s front y.0 y.1, length-take n bytes, taken)) in
    let same : (y.0.0, rest) ≡ x = ap (λ (l : List ℕ). (y.0.0, l ++ rest)) (sym over) ∙ ok_is (y.0.0, y.0.1 ++ rest) x y.2 in
    record {
      front = front;
      parts = sym (take-append-drop n bytes) ∙ ap (λ (l : List ℕ). front ++ l) (ap (λ (p : Y × List ℕ). p.1) same);
      again = λ more. is.whole s t front more size ∙ ap (followed_by more) y.1 ∙ ap (λ (l : List ℕ). Ok (y.0.0, l ++ more)) over ∙ ap (λ (p : Y × List ℕ). Ok (p.0, more)) same;
    }
