-- When stones taken back are a move backward.
use Rattle.std.proofs.Common.{◌≡◌, ℕ, ◌+◌, ◌<◌, ◌≤◌, ◌⊎◌, ⊎_elim, inl, inr, Bool, true, false, cond, leb, eqb, List, length, get_or, Option, Some, None, refl, sym, ap, ◌∙◌, subst, arith, ◌-◌, eq-eqb}
use Rattle.std.specs.Bool.{Decides}
use Rattle.std.proofs.lemmas.Bool.{cases_lt, cases_Bool}
use Rattle.std.proofs.lemmas.Bool.Decides.{nat_tests, Decides-and, Decides-or, Decides-ltb, Decides-eqb}
use Rattle.std.proofs.lemmas.List.FromFn.{get_or-map-range_with_len}
use Rattle.std.proofs.lemmas.Slice.Eq.{slice_eq-Decides}
use Rattle.awari_board.specs.Rules.{IsLegal, other_stones, landing, fallen, sown, captured_stones}
use Rattle.awari_board.proofs.Landing.{feeds_far, far_from_feeds}
use Rattle.awari_unmove.specs.Undoing.{IsUnsowing, unsown, is_unmove, unmove}
use Rattle.awari_unmove.proofs.Unsowing.{IsUnsowing-from_sown, bare-from_sown, unsown-from_IsUnsowing}

-- the board p sows its k stones from pit x, and leaves `back` with no capture
pub record IsUnmove (back : List ℕ) (x k : ℕ) (p : List ℕ) : Type 0 where
  pub size : length p ≡ 12
  pub held : get_or p x 0 ≡ k
  pub legal : IsLegal p x
  pub sows : sown p x ≡ back
  pub kept : captured_stones back (landing x k) ≡ 0

Decides-leb : (a b : ℕ) → Decides (leb a b) (a ≤ b)
Decides-leb a b = (λ t. grind (arith, nat_tests), λ h. grind (arith, nat_tests))

is_unmove-Decides : (back : List ℕ) (x k : ℕ) (p : List ℕ) → Decides (is_unmove back x k p) (((((x < 6) × (0 < k)) × ((0 < other_stones p) ⊎ (6 ≤ x + k))) × (sown p x ≡ back)) × (captured_stones back (landing x k) ≡ 0))
is_unmove-Decides back x k p =
    Decides-and _ _
    (Decides-and _ _
    (Decides-and _ _
    (Decides-and _ _ (Decides-ltb x 6) (Decides-ltb 0 k))
    (Decides-or _ _ (Decides-ltb 0 (other_stones p)) (Decides-leb 6 (x + k))))
    (slice_eq-Decides Decides-eqb (sown p x) back _ refl))
    (Decides-eqb (captured_stones back (landing x k)) 0)

feeding : (p : List ℕ) (x k : ℕ) → get_or p x 0 ≡ k → IsLegal p x → (0 < other_stones p) ⊎ (6 ≤ x + k)
feeding p x k held legal =
    ⊎_elim inl (λ none. let fed = legal.feeds (omega arith) in inr (far_from_feeds x k fed.0 fed.1 (omega (arith, fed.2)) fed.3)) (cases_lt 0 (other_stones p))

legal-from_feeding : (p : List ℕ) (x k : ℕ) → get_or p x 0 ≡ k → x < 6 → 0 < k → (0 < other_stones p) ⊎ (6 ≤ x + k) → IsLegal p x
legal-from_feeding p x k held own some feeds = record {
  own = own;
  held = omega arith;
  feeds = λ bare. ⊎_elim (λ more. absurd (omega (arith, more, bare))) (λ far. let fed = feeds_far x k own far in (fed.0, fed.1, omega (arith, fed.2), fed.3)) feeds;
}

-- what k stones taken back from `back` are
unsown-from_IsUnmove : (back : List ℕ) (x k : ℕ) (p : List ℕ) → IsUnmove back x k p → p ≡ unsown back x k
unsown-from_IsUnmove back x k p goes =
    let own : x < 12 = omega (arith, goes.legal.own) in
    unsown-from_IsUnsowing back x k p own (subst (λ n. IsUnsowing back x n p) goes.held (IsUnsowing-from_sown back x p own goes.size goes.sows)) (bare-from_sown back x p own goes.sows)

pub unmove-some : (back : List ℕ) (x k : ℕ) (p : List ℕ) → IsUnmove back x k p → unmove back x k ≡ Some (p, x)
unfolding unmove
unmove-some back x k p goes =
    let is = unsown-from_IsUnmove back x k p goes in
    let passes : is_unmove back x k p ≡ true = (is_unmove-Decides back x k p).1 (((((goes.legal.own, omega (arith, goes.held, goes.legal.held)), feeding p x k goes.held goes.legal), goes.sows), goes.kept)) in
    let choice : Bool → List ℕ → Option (List ℕ × ℕ) = λ b u. let pair : List ℕ × ℕ = (u, x) in cond b (Some pair) None in
    subst (λ u. choice (is_unmove back x k u) u ≡ Some (p, x)) is (ap (λ b. choice b p) passes)

pub unmove-only : (back : List ℕ) (x k : ℕ) (e : List ℕ × ℕ) → unmove back x k ≡ Some e → (e.1 ≡ x) × IsUnmove back x k e.0
unfolding unmove
unmove-only back x k e here = go (cases_Bool (is_unmove back x k (unsown back x k)))
  where
    go : (is_unmove back x k (unsown back x k) ≡ true) ⊎ (is_unmove back x k (unsown back x k) ≡ false) → (e.1 ≡ x) × IsUnmove back x k e.0
    go (inr refused) = let none : None ≡ Some e = ap (λ b. let pair : List ℕ × ℕ = (unsown back x k, x) in cond b (Some pair) None) (sym refused) ∙ here in cc
    go (inl passes) =
        let facts = (is_unmove-Decides back x k (unsown back x k)).0 passes in
        let pair : List ℕ × ℕ = (unsown back x k, x) in
        let is : Some pair ≡ Some e = ap (λ b. cond b (Some pair) None) (sym passes) ∙ here in
        let same : pair ≡ e = cc in
        let own = facts.0.0.0.0 in
        let some = facts.0.0.0.1 in
        let held : get_or (unsown back x k) x 0 ≡ k = get_or-map-range_with_len (λ i. cond (eqb i x) k (get_or back i 0 - fallen x k i)) 0 12 x x 0 (omega (arith, own)) (omega arith) ∙ ap (λ b. cond b k (get_or back x 0 - fallen x k x)) (eq-eqb x x refl) in
        let goes : IsUnmove back x k (unsown back x k) = record { size = refl; held = held; legal = legal-from_feeding (unsown back x k) x k held own some facts.0.0.1; sows = facts.0.1; kept = facts.1 } in
        subst (λ e. (e.1 ≡ x) × IsUnmove back x k e.0) same (refl, goes)

pub unmove-none : (back : List ℕ) (x k : ℕ) → ((p : List ℕ) → IsUnmove back x k p → ⊥) → unmove back x k ≡ None
unmove-none back x k never = go (unmove back x k) refl
  where
    go : (o : Option (List ℕ × ℕ)) → unmove back x k ≡ o → unmove back x k ≡ None
    go None here = here
    go (Some e) here = absurd (never e.0 (unmove-only back x k e here).1)
