-- Fresh boards of the open wave are given away.
use Rattle.std.proofs.Common.{◌≡◌, ℕ, ◌+◌, ◌<◌, ◌≤◌, ◌==◌, inl, inr, Bool, true, false, List, [], ◌∷◌, ◌++◌, map, get_or, All, ℤ, pos, neg_ℤ, Some, refl, sym, ap, subst, ◌∙◌, arith, eqb-true}
use Rattle.std.proofs.lemmas.Int.{ints}
use Rattle.std.proofs.lemmas.List.Sorted.{All-permutation, IsPermutation-sym}
use Rattle.std.proofs.lemmas.Bool.Decides.{nat_tests}
use Rattle.awari_block.specs.Blocks.{Due, due_dist, due_rank, times_due}
use Rattle.awari_block.specs.Boards.{GivesFresh, value_of_kind}
use Rattle.awari_block.specs.Notes.{Has}
use Rattle.awari_block.specs.Part.{Part, AreFresh, settled_at}
use Rattle.awari_block.specs.declared.notes.Kind.{Kind}
use Rattle.awari_block.specs.declared.notes.Kind.TheVariants.{Won, Lost}
use Rattle.awari_block.proofs.BlockLemmas.{one_if, times_due-cons}
use Rattle.awari_block.proofs.ListParts.{All-append_first, All-append_second}
use Rattle.awari_segments.specs.Segments.{IsPassed}

-- ---- how often a board is due

pub pend_zero : (w : ℕ) (ranks : List ℕ) (fresh : List Due) (r : ℕ) → times_due (map (λ x. (w, x)) ranks ++ fresh) r ≡ 0 → (Has ranks r → ⊥) × (times_due fresh r ≡ 0)
pend_zero w [] fresh r none = ((λ h. h), none)
pend_zero w (x ∷ ranks) fresh r none =
    let cons = times_due-cons (w, x) (map (λ y. (w, y)) ranks ++ fresh) r in
    let rest = pend_zero w ranks fresh r (omega (arith, cons, none)) in
    ((λ h. elim h [ inl same ↦ absurd (let one = here x r (sym same) in omega (arith, cons, none, one)) | inr has ↦ rest.0 has ]), rest.1)
  where
    here : (a b : ℕ) → a ≡ b → one_if (a == b) ≡ 1
    here a b e = grind (arith, nat_tests)

pub pend_none : (w : ℕ) (ranks : List ℕ) (fresh : List Due) (r : ℕ) → (Has ranks r → ⊥) → times_due fresh r ≡ 0 → times_due (map (λ x. (w, x)) ranks ++ fresh) r ≡ 0
pend_none w [] fresh r apart none = none
pend_none w (x ∷ ranks) fresh r apart none =
    let cons = times_due-cons (w, x) (map (λ y. (w, y)) ranks ++ fresh) r in
    let rest = pend_none w ranks fresh r (λ h. apart (inr h)) none in
    let zero_here = other x r (λ e. apart (inl (sym e))) in
    omega (arith, cons, rest, zero_here)
  where
    other : (a b : ℕ) → (a ≡ b → ⊥) → one_if (a == b) ≡ 0
    other a b ne = by (a == b) refl
      where
        by : (c : Bool) → (a == b) ≡ c → one_if c ≡ 0
        by true e = absurd (ne (eqb-true a b e))
        by false e = refl

pub given_once : (w : ℕ) (given : List ℕ) (F : List Due) (r : ℕ) → Has given r → 1 + times_due F r ≤ times_due (map (λ x. (w, x)) given ++ F) r
given_once w [] F r h = elim h [ ]
given_once w (x ∷ given) F r (inl same) =
    let cons = times_due-cons (w, x) (map (λ y. (w, y)) given ++ F) r in
    let one = here x r (sym same) in
    let least = rest w given F r in
    omega (arith, cons, one, least)
  where
    here : (a b : ℕ) → a ≡ b → one_if (a == b) ≡ 1
    here a b e = grind (arith, nat_tests)

    rest : (w : ℕ) (given : List ℕ) (F : List Due) (r : ℕ) → times_due F r ≤ times_due (map (λ x. (w, x)) given ++ F) r
    rest w [] F r = omega arith
    rest w (x ∷ given) F r = let cons = times_due-cons (w, x) (map (λ y. (w, y)) given ++ F) r in let more = rest w given F r in omega (arith, cons, more)
given_once w (x ∷ given) F r (inr later) =
    let cons = times_due-cons (w, x) (map (λ y. (w, y)) given ++ F) r in
    let more = given_once w given F r later in
    omega (arith, cons, more)

-- ---- what is left

-- once a segment gave both kinds, its fresh boards are farther than its wave
pub passed_by : (old mid new : Part) (lost won : List ℕ) → 1 ≤ old.gain → GivesFresh Lost old mid lost → AreFresh mid → GivesFresh Won mid new won → IsPassed new
passed_by old mid new lost won one first fresh second j d h = omega (arith, near, wave', apart)
  where
    f : Due
    f = get_or new.fresh j d

    -- what holds of all that the first kind left
    Stays : Due → Type 0
    Stays f = (mid.wave ≤ due_dist f) × (due_dist f ≡ old.wave → settled_at old (due_rank f) ≡ Some (value_of_kind Won old.gain, old.wave))

    kept : All Stays new.fresh
    kept = All-append_second Stays (map (λ r. (mid.wave, r)) won) new.fresh (All-permutation Stays mid.fresh (map (λ r. (mid.wave, r)) won ++ new.fresh) (IsPermutation-sym _ _ second.moved) (λ i e k. ((fresh.boards i e k).4, first.left i e k)))

    near : mid.wave ≤ due_dist f
    near = (kept j d h).0

    wave : mid.wave ≡ old.wave
    wave = ap (λ (p : Part). p.wave) first.rest

    wave' : new.wave ≡ mid.wave
    wave' = ap (λ (p : Part). p.wave) second.rest

    values : (a b : ℤ × ℕ) → Some a ≡ Some b → a.0 ≡ b.0
    values a b same = let both : a ≡ b = cc in ap (λ (c : ℤ × ℕ). c.0) both

    clash : (g m : ℕ) → 1 ≤ g → m ≡ g → neg_ℤ (pos m) ≡ pos g → ⊥
    clash g m one is same = omega (arith, ints, one, is, same)

    -- a board of the wave would be of both kinds
    apart : due_dist f ≡ mid.wave → ⊥
    apart e =
        let is_lost = second.left j d h e in
        let is_won = subst (λ (p : Part). settled_at p (due_rank f) ≡ Some (value_of_kind Won old.gain, old.wave)) (sym first.rest) ((kept j d h).1 (e ∙ wave)) in
        clash old.gain mid.gain one (ap (λ (p : Part). p.gain) first.rest) (values (value_of_kind Lost mid.gain, mid.wave) (value_of_kind Won old.gain, old.wave) (sym is_lost ∙ is_won))

-- a segment whose fresh boards are farther gives none
pub none_given : (kind : Kind) (old new : Part) (given : List ℕ) → IsPassed old → GivesFresh kind old new given → (given ≡ []) × IsPassed new
none_given kind old new given passed gives = (nothing given (All-append_first P (map (λ r. (old.wave, r)) given) new.fresh all), subst (λ w. All (λ (f : Due). w < due_dist f) new.fresh) (sym wave) (All-append_second P (map (λ r. (old.wave, r)) given) new.fresh all))
  where
    P : Due → Type 0
    P f = old.wave < due_dist f

    all : All P (map (λ r. (old.wave, r)) given ++ new.fresh)
    all = All-permutation P old.fresh (map (λ r. (old.wave, r)) given ++ new.fresh) (IsPermutation-sym _ _ gives.moved) passed

    wave : new.wave ≡ old.wave
    wave = ap (λ (p : Part). p.wave) gives.rest

    nothing : (given : List ℕ) → All P (map (λ r. (old.wave, r)) given) → given ≡ []
    nothing [] far = refl
    nothing (x ∷ given) far = let h = far 0 (0, 0) (omega arith) in absurd (omega (arith, h))
