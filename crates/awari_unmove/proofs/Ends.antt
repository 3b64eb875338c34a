-- Ends of sowings on the own side, and the table of them.
use Rattle.std.proofs.Common.{◌≡◌, ℕ, zero, suc, ◌+◌, ◌*◌, ◌-◌, ◌/◌, ◌%◌, ◌^◌, ◌<◌, ◌≤◌, ◌⊎◌, ⊎_elim, inl, inr, Bool, true, false, cond, not, ◌&&◌, eqb, get_or, refl, sym, ap, ◌∙◌, arith}
use Rattle.std.proofs.lemmas.Bool.{cases_lt, cases_eq}
use Rattle.std.proofs.lemmas.Bool.Decides.{Decides-eqb}
use Rattle.awari_rank.proofs.Table.{all_below, below_all}
use Rattle.awari_unmove.specs.Steps.{has_bit, origin_of, is_end, steps_from}
use Rattle.awari_unmove.specs.declared.steps.TheConstants.{STEPS, LAST_ORIGIN}

-- ---- the table

unfoldable pub steps_at : ℕ → ℕ
steps_at m = get_or STEPS m 0

unfoldable pub origin_at : ℕ → ℕ
origin_at m = get_or LAST_ORIGIN m 0

steps_ok : all_below (λ m. eqb (steps_at m) (steps_from (has_bit m) 0 6)) 64 ≡ true
unfolding all_below steps_at origin_of steps_from
steps_ok = refl

origins_ok : all_below (λ m. eqb (origin_at m) (origin_of (has_bit m) 6)) 64 ≡ true
unfolding all_below origin_at origin_of
origins_ok = refl

pub steps_is : (m : ℕ) → m < 64 → steps_at m ≡ steps_from (has_bit m) 0 6
steps_is m few = (Decides-eqb (steps_at m) (steps_from (has_bit m) 0 6)).0 (below_all (λ m. eqb (steps_at m) (steps_from (has_bit m) 0 6)) 64 steps_ok m few)

pub origin_is : (m : ℕ) → m < 64 → origin_at m ≡ origin_of (has_bit m) 6
origin_is m few = (Decides-eqb (origin_at m) (origin_of (has_bit m) 6)).0 (below_all (λ m. eqb (origin_at m) (origin_of (has_bit m) 6)) 64 origins_ok m few)

-- ---- the bits

-- six digits in base 2
pub six_bits : (a b c d e f : ℕ) (p : ℕ → Bool) → (a < 2) × (b < 2) × (c < 2) × (d < 2) × (e < 2) × (f < 2)
    → (eqb a 1 ≡ p 0) × (eqb b 1 ≡ p 1) × (eqb c 1 ≡ p 2) × (eqb d 1 ≡ p 3) × (eqb e 1 ≡ p 4) × (eqb f 1 ≡ p 5)
    → (i : ℕ) → i < 6 → has_bit (a + 2 * b + 4 * c + 8 * d + 16 * e + 32 * f) i ≡ p i
six_bits a b c d e f p (al, bl, cl, dl, el, fl) (ah, bh, ch, dh, eh, fh) i own = go i own
  where
    n : ℕ
    n = a + 2 * b + 4 * c + 8 * d + 16 * e + 32 * f

    go : (i : ℕ) → i < 6 → has_bit n i ≡ p i
    go zero own = let is : n / 2 ^ 0 % 2 ≡ a = omega (arith, al, bl, cl, dl, el, fl) in ap (λ m. eqb m 1) is ∙ ah
    go (suc zero) own = let is : n / 2 ^ 1 % 2 ≡ b = omega (arith, al, bl, cl, dl, el, fl) in ap (λ m. eqb m 1) is ∙ bh
    go (suc (suc zero)) own = let is : n / 2 ^ 2 % 2 ≡ c = omega (arith, al, bl, cl, dl, el, fl) in ap (λ m. eqb m 1) is ∙ ch
    go (suc (suc (suc zero))) own = let is : n / 2 ^ 3 % 2 ≡ d = omega (arith, al, bl, cl, dl, el, fl) in ap (λ m. eqb m 1) is ∙ dh
    go (suc (suc (suc (suc zero)))) own = let is : n / 2 ^ 4 % 2 ≡ e = omega (arith, al, bl, cl, dl, el, fl) in ap (λ m. eqb m 1) is ∙ eh
    go (suc (suc (suc (suc (suc zero))))) own = let is : n / 2 ^ 5 % 2 ≡ f = omega (arith, al, bl, cl, dl, el, fl) in ap (λ m. eqb m 1) is ∙ fh
    go (suc (suc (suc (suc (suc (suc i)))))) own = absurd (omega arith)

-- ---- origins

origin_of-held : (held : ℕ → Bool) (j : ℕ) → held j ≡ true → origin_of held (suc j) ≡ origin_of held j
unfolding origin_of
origin_of-held held j is = ap (λ b. cond b (origin_of held j) j) is

origin_of-empty : (held : ℕ → Bool) (j : ℕ) → held j ≡ false → origin_of held (suc j) ≡ j
unfolding origin_of
origin_of-empty held j is = ap (λ b. cond b (origin_of held j) j) is

origin_of-first : (held : ℕ → Bool) → origin_of held 0 ≡ 0
unfolding origin_of
origin_of-first held = refl

pub origin_of-before : (held : ℕ → Bool) (j : ℕ) → origin_of held j ≤ j - 1
origin_of-before held zero = omega (arith, origin_of-first held)
origin_of-before held (suc j) = go (held j) refl (origin_of-before held j)
  where
    go : (b : Bool) → held j ≡ b → origin_of held j ≤ j - 1 → origin_of held (suc j) ≤ suc j - 1
    go true is before = omega (arith, origin_of-held held j is, before)
    go false is before = omega (arith, origin_of-empty held j is)

pub origin_of-grows : (held : ℕ → Bool) (j d : ℕ) → origin_of held j ≤ origin_of held (j + d)
origin_of-grows held j zero = let e : j + 0 ≡ j = omega arith in omega (arith, ap (origin_of held) e)
origin_of-grows held j (suc d) = go (held (j + d)) refl (origin_of-grows held j d)
  where
    e : j + suc d ≡ suc (j + d)
    e = omega arith

    go : (b : Bool) → held (j + d) ≡ b → origin_of held j ≤ origin_of held (j + d) → origin_of held j ≤ origin_of held (j + suc d)
    go true is before = omega (arith, ap (origin_of held) e, origin_of-held held (j + d) is, before)
    go false is before = omega (arith, ap (origin_of held) e, origin_of-empty held (j + d) is, origin_of-before held (j + d), before)

-- the pits after the origin hold stones
pub origin_of-between : (held : ℕ → Bool) (j i : ℕ) → origin_of held j < i → i < j → held i ≡ true
origin_of-between held zero i past in_range = absurd (omega arith)
origin_of-between held (suc j) i past in_range = go (held j) refl (origin_of-between held j i)
  where
    go : (b : Bool) → held j ≡ b → (origin_of held j < i → i < j → held i ≡ true) → held i ≡ true
    go true is before =
        ⊎_elim (λ less. before (omega (arith, past, origin_of-held held j is)) less)
        (λ last. let e : i ≡ j = omega (arith, last, in_range) in ap held e ∙ is) (cases_lt i j)
    go false is before = absurd (omega (arith, past, in_range, origin_of-empty held j is))

-- and there is one such pit that is empty
pub origin_of-only : (held : ℕ → Bool) (j x : ℕ) → x < j → held x ≡ false → ((i : ℕ) → x < i → i < j → held i ≡ true) → origin_of held j ≡ x
origin_of-only held zero x less empty between = absurd (omega arith)
origin_of-only held (suc j) x less empty between =
    ⊎_elim (λ same. origin_of-empty held j (ap held (sym same) ∙ empty) ∙ sym same)
    (λ other. origin_of-held held j (between j (omega (arith, less, other)) (omega arith)) ∙ origin_of-only held j x (omega (arith, less, other)) empty (λ i past in_range. between i past (omega arith)))
    (cases_eq x j)

-- ---- two that tell the same of the pits below n

pub origin_of-same : (f g : ℕ → Bool) (n j : ℕ) → ((i : ℕ) → i < n → f i ≡ g i) → j ≤ n → origin_of f j ≡ origin_of g j
unfolding origin_of
origin_of-same f g n zero same few = refl
origin_of-same f g n (suc j) same few =
    ap (λ b. cond b (origin_of f j) j) (same j (omega arith)) ∙ ap (λ x. cond (g j) x j) (origin_of-same f g n j same (omega arith))

pub is_end-same : (f g : ℕ → Bool) (n j : ℕ) → ((i : ℕ) → i < n → f i ≡ g i) → j < n → is_end f j ≡ is_end g j
is_end-same f g n j same few =
    ap (λ b. b && not (f (origin_of f j))) (same j few)
    ∙ ap (λ b. g j && not b) (same (origin_of f j) (omega (arith, origin_of-before f j)))
    ∙ ap (λ x. g j && not (g x)) (origin_of-same f g n j same (omega arith))

-- an end holds stones, and its origin is an empty pit before it
pub record IsEnd (held : ℕ → Bool) (j : ℕ) : Type 0 where
  pub here : held j ≡ true
  pub empty : held (origin_of held j) ≡ false
  pub before : origin_of held j < j

both_are : (a b : Bool) → a && not b ≡ true → (a ≡ true) × (b ≡ false)
both_are true false is = (refl, refl)
both_are true true is = absurd (cc)
both_are false b is = absurd (cc)

pub IsEnd-from_is_end : (held : ℕ → Bool) (j : ℕ) → is_end held j ≡ true → IsEnd held j
IsEnd-from_is_end held zero is =
    let both = both_are (held 0) (held (origin_of held 0)) is in
    let no : held 0 ≡ false = ap held (sym (origin_of-first held)) ∙ both.1 in
    let yes = both.0 in
    absurd (cc)
IsEnd-from_is_end held (suc j) is =
    let both = both_are (held (suc j)) (held (origin_of held (suc j))) is in
    record { here = both.0; empty = both.1; before = omega (arith, origin_of-before held (suc j)) }

-- a pit that is no end is empty, or the pit that would be its origin holds stones
pub not_end : (held : ℕ → Bool) (j : ℕ) → is_end held j ≡ false → (held j ≡ false) ⊎ (held (origin_of held j) ≡ true)
not_end held j is = go (held j) (held (origin_of held j)) is
  where
    go : (a b : Bool) → a && not b ≡ false → (a ≡ false) ⊎ (b ≡ true)
    go false b is = inl refl
    go true true is = inr refl
    go true false is = absurd (cc)

-- ---- steps

steps_from-here : (held : ℕ → Bool) (j n : ℕ) → is_end held j ≡ true → steps_from held j (suc n) ≡ 8 * origin_of held j + j + 64 * steps_from held (j + 1) n
unfolding steps_from
steps_from-here held j n is = ap (λ b. cond b (8 * origin_of held j + j + 64 * steps_from held (j + 1) n) (steps_from held (j + 1) n)) is

steps_from-later : (held : ℕ → Bool) (j n : ℕ) → is_end held j ≡ false → steps_from held j (suc n) ≡ steps_from held (j + 1) n
unfolding steps_from
steps_from-later held j n is = ap (λ b. cond b (8 * origin_of held j + j + 64 * steps_from held (j + 1) n) (steps_from held (j + 1) n)) is

steps_from-none : (held : ℕ → Bool) (j : ℕ) → steps_from held j 0 ≡ 0
unfolding steps_from
steps_from-none held j = refl

-- the first end of the n pits from pit j on, and the steps after it
pub record IsFirstEnd (held : ℕ → Bool) (j n steps end : ℕ) : Type 0 where
  pub low : j ≤ end
  pub high : end < j + n
  pub before : (i : ℕ) → j ≤ i → i < end → is_end held i ≡ false
  pub here : is_end held end ≡ true
  pub are : steps ≡ 8 * origin_of held end + end + 64 * steps_from held (end + 1) (j + n - (end + 1))

pub steps_from-first : (held : ℕ → Bool) (j n : ℕ) → 0 < steps_from held j n → (end : ℕ) × IsFirstEnd held j n (steps_from held j n) end
steps_from-first held j zero some = absurd (omega (arith, some, steps_from-none held j))
steps_from-first held j (suc n) some = go (is_end held j) refl (steps_from-first held (j + 1) n)
  where
    go : (b : Bool) → is_end held j ≡ b → (0 < steps_from held (j + 1) n → (end : ℕ) × IsFirstEnd held (j + 1) n (steps_from held (j + 1) n) end) → (end : ℕ) × IsFirstEnd held j (suc n) (steps_from held j (suc n)) end
    go true at rest =
        let left : j + suc n - (j + 1) ≡ n = omega arith in (
          j,
          record {
            low = omega arith;
            high = omega arith;
            before = λ i low high. absurd (omega (arith, low, high));
            here = at;
            are = steps_from-here held j n at ∙ ap (λ m. 8 * origin_of held j + j + 64 * steps_from held (j + 1) m) (sym left);
          },
        )
    go false at rest =
        let same = steps_from-later held j n at in
        let found = rest (omega (arith, some, same)) in
        let first = found.1 in
        let end = found.0 in
        let e : j + 1 + n ≡ j + suc n = omega arith in (
          end,
          record {
            low = omega (arith, first.low);
            high = omega (arith, first.high);
            before = λ i low high. ⊎_elim (λ here. ap (is_end held) (sym here) ∙ at) (λ other. first.before i (omega (arith, low, other)) high) (cases_eq j i);
            here = first.here;
            are = same ∙ first.are ∙ ap (λ m. 8 * origin_of held end + end + 64 * steps_from held (end + 1) (m - (end + 1))) e;
          },
        )

-- no step, no end
pub steps_from-end : (held : ℕ → Bool) (j n : ℕ) → steps_from held j n ≡ 0 → (i : ℕ) → j ≤ i → i < j + n → is_end held i ≡ false
steps_from-end held j zero none i low high = absurd (omega (arith, low, high))
steps_from-end held j (suc n) none i low high = go (is_end held j) refl (steps_from-end held (j + 1) n)
  where
    go : (b : Bool) → is_end held j ≡ b → (steps_from held (j + 1) n ≡ 0 → (i : ℕ) → j + 1 ≤ i → i < j + 1 + n → is_end held i ≡ false) → is_end held i ≡ false
    go true at rest = let before = (IsEnd-from_is_end held j at).before in absurd (omega (arith, none, before, steps_from-here held j n at))
    go false at rest =
        ⊎_elim (λ here. ap (is_end held) (sym here) ∙ at) (λ other. rest (sym (steps_from-later held j n at) ∙ none) i (omega (arith, low, other)) (omega (arith, high))) (cases_eq j i)

pub steps_from-same : (f g : ℕ → Bool) (m j n : ℕ) → ((i : ℕ) → i < m → f i ≡ g i) → j + n ≤ m → steps_from f j n ≡ steps_from g j n
unfolding steps_from
steps_from-same f g m j zero same few = refl
steps_from-same f g m j (suc n) same few =
    ap (λ b. cond b (8 * origin_of f j + j + 64 * steps_from f (j + 1) n) (steps_from f (j + 1) n)) (is_end-same f g m j same (omega (arith, few)))
    ∙ ap (λ x. cond (is_end g j) (8 * x + j + 64 * steps_from f (j + 1) n) (steps_from f (j + 1) n)) (origin_of-same f g m j same (omega (arith, few)))
    ∙ ap (λ s. cond (is_end g j) (8 * origin_of g j + j + 64 * s) s) (steps_from-same f g m (j + 1) n same (omega (arith, few)))
