-- What a sowing leaves, and its stones taken back at once.
use Rattle.std.proofs.Common.{◌≡◌, ℕ, zero, suc, ◌+◌, ◌-◌, ◌<◌, ◌≤◌, true, false, List, length, get_or, set, sum, cond, eqb, refl, sym, ap, ◌∙◌, subst, arith, eq-eqb}
use Rattle.std.proofs.lemmas.Bool.Decides.{nat_tests}
use Rattle.std.proofs.lemmas.List.{drop-set-lt}
use Rattle.awari_board.specs.Rules.{other_stones, landing, fallen, captured_stones}
use Rattle.awari_board.proofs.Capturing.{captured_stones-none, run_to-own}
use Rattle.awari_board.proofs.Falling.{fallen-more}
use Rattle.awari_packed.specs.TakenBack.{taken_back}
use Rattle.awari_packed.proofs.TakingBack.{taken_back-past}
use Rattle.awari_unmove.specs.Steps.{holds}
use Rattle.awari_unmove.specs.Undoing.{IsUnsowing}
use Rattle.awari_unmove.proofs.Unmoving.{IsUnmove}
use Rattle.awari_unmove.proofs.Unsowing.{fallen-grows, IsUnsowing-none, IsUnsowing-moved, IsUnsowing-from_sown, unsown-from_IsUnsowing}

-- ---- stones fallen into the pits next to the origin

-- a sowing that goes as far as a pit lets a stone fall into it
pub fallen-some : (x k i : ℕ) → x < i → i < 12 → i ≤ x + k → 0 < fallen x k i
fallen-some x k i past on_board far =
    let m = i - x - 1 in
    let here : landing x (m + 1) ≡ i = omega arith in
    let one : fallen x (m + 1) i ≡ fallen x m i + 1 = fallen-more x m i ∙ ap (λ b. fallen x m i + cond b 1 0) (eq-eqb (landing x (m + 1)) i here) in
    let e : (m + 1) + (k - (m + 1)) ≡ k = omega arith in
    let grown : fallen x (m + 1) i ≤ fallen x k i = subst (λ n. fallen x (m + 1) i ≤ fallen x n i) e (fallen-grows x (m + 1) (k - (m + 1)) i) in
    omega (arith, one, grown)

-- so that the pit holds one now
pub held-from_IsUnmove : (back : List ℕ) (x k i : ℕ) (p : List ℕ) → IsUnmove back x k p → x < i → i < 12 → i ≤ x + k → 0 < get_or back i 0
held-from_IsUnmove back x k i p goes past on_board far =
    let own : x < 12 = omega (arith, goes.legal.own) in
    let taken : IsUnsowing back x k p = subst (λ n. IsUnsowing back x n p) goes.held (IsUnsowing-from_sown back x p own goes.size goes.sows) in
    let each = taken.each i on_board in
    let some = fallen-some x k i past on_board far in
    let other : eqb i x ≡ false = grind (arith, nat_tests) in
    let none : cond (eqb i x) k 0 ≡ 0 = ap (λ b. cond b k 0) other in
    omega (arith, each, some, none)

-- ---- stones taken back at once

pub IsUnsowing-taken : (back : List ℕ) (x k : ℕ) → length back ≡ 12 → x + k < 12 → ((i : ℕ) → x < i → i ≤ x + k → 0 < get_or back i 0) → IsUnsowing back x k (taken_back back x k)
unfolding taken_back
IsUnsowing-taken back x zero size on_board held = IsUnsowing-none back x size
IsUnsowing-taken back x (suc k) size on_board held =
    let left = taken_back back x k in
    let before = IsUnsowing-taken back x k size (omega arith) (λ i low high. held i low (omega (arith, high))) in
    let there : x + k + 1 ≡ landing x (k + 1) = omega arith in
    let here : 0 < get_or left (x + k + 1) 0 = subst (λ s. 0 < s) (sym (taken_back-past back x k (x + k + 1) (omega arith))) (held (x + k + 1) (omega arith) (omega arith)) in
    let e : k + 1 ≡ suc k = omega arith in
    subst (λ n. IsUnsowing back x n (set (set left (x + k + 1) (get_or left (x + k + 1) 0 - 1)) x (get_or left x 0 + 1))) e
    (IsUnsowing-moved back x k left (x + k + 1) (omega arith) before there here)

-- the other side is as it was
pub other_stones-taken : (back : List ℕ) (x k : ℕ) → x + k < 6 → other_stones (taken_back back x k) ≡ other_stones back
unfolding taken_back
other_stones-taken back x zero own = refl
other_stones-taken back x (suc k) own =
    let left = taken_back back x k in
    let one = set left (x + k + 1) (get_or left (x + k + 1) 0 - 1) in
    ap sum (drop-set-lt 6 one x (get_or left x 0 + 1) (omega arith)) ∙ ap sum (drop-set-lt 6 left (x + k + 1) (get_or left (x + k + 1) 0 - 1) (omega arith)) ∙ other_stones-taken back x k (omega arith)

-- nothing is captured on the own side
pub captured_stones-own : (back : List ℕ) (last : ℕ) → last < 6 → captured_stones back last ≡ 0
captured_stones-own back last own =
    sym (captured_stones-none back last (run_to-own back (last + 1) (omega arith)))

-- a move that stays on the own side leaves the other as it was
pub other_stones-from_IsUnmove : (back : List ℕ) (x k : ℕ) (p : List ℕ) → length back ≡ 12 → IsUnmove back x k p → get_or back x 0 ≡ 0 → x + k < 6 → other_stones p ≡ other_stones back
other_stones-from_IsUnmove back x k p size goes bare near =
    let own : x < 12 = omega (arith, goes.legal.own) in
    let taken : IsUnsowing back x k p = subst (λ n. IsUnsowing back x n p) goes.held (IsUnsowing-from_sown back x p own goes.size goes.sows) in
    let those = IsUnsowing-taken back x k size (omega arith) (λ i low high. held-from_IsUnmove back x k i p goes low (omega (arith, high, near)) high) in
    let same : p ≡ taken_back back x k = unsown-from_IsUnsowing back x k p own taken bare ∙ sym (unsown-from_IsUnsowing back x k (taken_back back x k) own those bare) in
    ap other_stones same ∙ other_stones-taken back x k near

-- ---- pits that hold stones

pub holds-true : (back : List ℕ) (i : ℕ) → holds back i ≡ true → 0 < get_or back i 0
holds-true back i is = grind (arith, nat_tests)

pub holds-false : (back : List ℕ) (i : ℕ) → holds back i ≡ false → get_or back i 0 ≡ 0
holds-false back i is = grind (arith, nat_tests)

pub true-holds : (back : List ℕ) (i : ℕ) → 0 < get_or back i 0 → holds back i ≡ true
true-holds back i some = grind (arith, nat_tests)

pub false-holds : (back : List ℕ) (i : ℕ) → get_or back i 0 ≡ 0 → holds back i ≡ false
false-holds back i none = grind (arith, nat_tests)
