-- Owners that are changed where they stand, one after the other.
use Rattle.std.proofs.Common.{◌≡◌, ℕ, suc, ◌+◌, ◌<◌, ◌≤◌, List, [], ◌∷◌, length, refl, sym, ap, subst, ◌∙◌, inl, inr, arith, get_or, set, length-set}
use Rattle.std.proofs.lemmas.List.{get_or-set_same, get_or-set_other, get_or_default}
use Rattle.std.proofs.lemmas.Bool.{cases_eq}
use Rattle.awari_phase.specs.declared.owners.Owner.{Owner}
use Rattle.awari_phase.specs.Owners.{all_ends}

-- of each owner before place i this holds, and those from there on are as they were
pub record DoneTo (R : Owner → Owner → Type 0) (os ps : List Owner) (i : ℕ) : Type 0 where
  pub many : length ps ≡ length os
  pub before : (k : ℕ) (d : Owner) → k < i → R (get_or os k d) (get_or ps k d)
  pub after : (k : ℕ) (d : Owner) → i ≤ k → get_or ps k d ≡ get_or os k d

module _ (R : Owner → Owner → Type 0) where
  -- the owner at place i is x, and becomes a
  pub done_more : (os ps : List Owner) (i : ℕ) (x y a : Owner) → i < length ps → x ≡ get_or ps i y → DoneTo R os ps i → R x a → DoneTo R os (set ps i a) (i + 1)
  done_more os ps i x y a inside at s r = record {
    many = length-set ps i a ∙ s.many;
    before = λ k d h. elim (cases_eq k i) [
      | inl e ↦
          (let P : ℕ → Type 0 = λ q. R (get_or os q d) (get_or (set ps i a) q d) in
          let was : x ≡ get_or os i d = at ∙ get_or_default ps i y d inside ∙ s.after i d (omega arith) in
          subst P (sym e) (subst (λ (u : Owner). R (get_or os i d) u) (sym (get_or-set_same ps i a d inside)) (subst (λ (u : Owner). R u a) was r)))
      | inr n ↦ subst (λ (u : Owner). R (get_or os k d) u) (sym (get_or-set_other ps i k a d n)) (s.before k d (omega (arith, h, n)))
    ];
    after = λ k d h. get_or-set_other ps i k a d (λ e. absurd (omega (arith, h, e))) ∙ s.after k d (omega (arith, h));
  }

  -- and so of all
  pub done_all : (os ps : List Owner) (i : ℕ) → length os ≤ i → DoneTo R os ps i → (k : ℕ) (d : Owner) → k < length os → R (get_or os k d) (get_or ps k d)
  done_all os ps i end s k d h = s.before k d (omega (arith, end, h))

-- the same ends at each place
pub same_ends : (os ps : List Owner) → length ps ≡ length os → ((k : ℕ) (d : Owner) → k < length os → (get_or ps k d).ends ≡ (get_or os k d).ends) → all_ends ps ≡ all_ends os
same_ends [] [] many each = refl
same_ends [] (p ∷ ps) many each = absurd (omega (arith, many))
same_ends (o ∷ os) [] many each = absurd (omega (arith, many))
same_ends (o ∷ os) (p ∷ ps) many each =
    ap (λ e. e ∷ all_ends ps) (each 0 o (omega arith)) ∙ ap (λ l. o.ends ∷ l) (same_ends os ps (omega (arith, many)) (λ k d h. each (suc k) d (omega (arith, h))))
