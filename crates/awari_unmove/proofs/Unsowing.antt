-- Stones of a sowing taken back.
use Rattle.std.proofs.Common.{◌≡◌, ◌≢◌, ℕ, zero, suc, ◌+◌, ◌-◌, ◌<◌, ◌≤◌, Bool, true, false, List, length, get_or, set, sum, cond, eqb, refl, sym, ap, subst, ◌∙◌, add-one, arith}
use Rattle.std.proofs.lemmas.Bool.{cases_eq}
use Rattle.std.proofs.lemmas.Bool.Decides.{nat_tests}
use Rattle.std.proofs.lemmas.Grind.{common_steps, elements}
use Rattle.std.proofs.lemmas.List.{get_or-set_other}
use Rattle.std.proofs.lemmas.List.FromFn.{fill_by_all, get_or-map-range_with_len}
use Rattle.awari_board.specs.Rules.{landing, fallen, sown}
use Rattle.awari_board.proofs.Falling.{fallen-more}
use Rattle.awari_board.proofs.Keeping.{sum-sown}
use Rattle.awari_unmove.specs.Undoing.{IsUnsowing, unsown}
use Rattle.awari_board.proofs.Capturing.{always_none}

-- no stone falls into its origin
pub fallen-own : (x k : ℕ) → x < 12 → fallen x k x ≡ 0
fallen-own x zero pit = refl
fallen-own x (suc k) pit =
    let elsewhere : landing x (k + 1) ≢ x = omega arith in
    let before = fallen-own x k pit in
    ap (λ m. fallen x m x) (sym (add-one k)) ∙ fallen-more x k x ∙ grind (arith, nat_tests)

-- more stones fall no less
pub fallen-grows : (x k d i : ℕ) → fallen x k i ≤ fallen x (k + d) i
fallen-grows x k zero i = let e : k ≡ k + 0 = omega arith in subst (λ m. fallen x k i ≤ fallen x m i) e (omega arith)
fallen-grows x k (suc d) i =
    let e : (k + d) + 1 ≡ k + suc d = omega arith in
    let more = fallen-more x (k + d) i in
    let before = fallen-grows x k d i in
    subst (λ m. fallen x k i ≤ fallen x m i) e (omega (arith, more, before))

pub IsUnsowing-none : (back : List ℕ) (x : ℕ) → length back ≡ 12 → IsUnsowing back x 0 back
IsUnsowing-none back x size = record {
  size = size;
  each = λ i in_board. ap (λ n. get_or back i 0 + n) (sym (always_none (eqb i x)));
  stones = refl;
}

pub IsUnsowing-more : (back : List ℕ) (x k : ℕ) (left : List ℕ) (last : ℕ) → x < 12 → IsUnsowing back x k left → last ≡ landing x (k + 1) → 0 < get_or left last 0 → IsUnsowing back x (k + 1) (set (set left last (get_or left last 0 - 1)) x (get_or (set left last (get_or left last 0 - 1)) x 0 + 1))
IsUnsowing-more back x k left last pit before there some =
    let elsewhere : last ≢ x = omega arith in
    let on_board : last < 12 = omega arith in
    record {
      size = grind (arith, common_steps, before.size);
      each = λ i in_board. grind (arith, elements, nat_tests, cases_eq i last, cases_eq i x, fallen-more x k i, before.each i in_board, before.size);
      stones = grind (arith, common_steps, before.stones, before.size);
    }

-- the same stone, with the origin read before it is taken
pub IsUnsowing-moved : (back : List ℕ) (x k : ℕ) (left : List ℕ) (last : ℕ) → x < 12 → IsUnsowing back x k left → last ≡ landing x (k + 1) → 0 < get_or left last 0 → IsUnsowing back x (k + 1) (set (set left last (get_or left last 0 - 1)) x (get_or left x 0 + 1))
IsUnsowing-moved back x k left last pit before there some =
    let elsewhere : x ≢ last = omega arith in
    subst (λ n. IsUnsowing back x (k + 1) (set (set left last (get_or left last 0 - 1)) x (n + 1))) (get_or-set_other left last x (get_or left last 0 - 1) 0 elsewhere) (IsUnsowing-more back x k left last pit before there some)

-- where the pit of the next stone is bare, no more can be taken back
pub IsUnsowing-stuck : (back : List ℕ) (x k n : ℕ) (left p : List ℕ) → x < 12 → IsUnsowing back x k left → get_or left (landing x (k + 1)) 0 ≡ 0 → k < n → IsUnsowing back x n p → ⊥
IsUnsowing-stuck back x k n left p pit before bare more after =
    let last = landing x (k + 1) in
    let on_board : last < 12 = omega arith in
    let elsewhere : last ≢ x = omega arith in
    let e : (k + 1) + (n - (k + 1)) ≡ n = omega arith in
    let grown : fallen x (k + 1) last ≤ fallen x n last = subst (λ m. fallen x (k + 1) last ≤ fallen x m last) e (fallen-grows x (k + 1) (n - (k + 1)) last) in
    let one : fallen x (k + 1) last ≡ fallen x k last + 1 = fallen-more x k last ∙ grind (arith, nat_tests) in
    let was = before.each last on_board in
    let is = after.each last on_board in
    grind (arith, nat_tests)

pub held-from_IsUnsowing : (back : List ℕ) (x k : ℕ) (p : List ℕ) → x < 12 → IsUnsowing back x k p → get_or back x 0 ≡ 0 → get_or p x 0 ≡ k
held-from_IsUnsowing back x k p pit taken bare = let own = fallen-own x k pit in let each = taken.each x pit in grind (arith, nat_tests)

-- sown again, the stones give the board back
pub sown-from_IsUnsowing : (back : List ℕ) (x k : ℕ) (p : List ℕ) → x < 12 → length back ≡ 12 → IsUnsowing back x k p → get_or back x 0 ≡ 0 → sown p x ≡ back
sown-from_IsUnsowing back x k p pit size taken bare =
    let held = held-from_IsUnsowing back x k p pit taken bare in
    let own = fallen-own x k pit in
    let each : (i : ℕ) → i < 12 → get_or back i 0 ≡ cond (eqb i x) 0 (get_or p i 0) + fallen x k i = λ i in_board. grind (arith, nat_tests, cases_eq i x, taken.each i in_board) in
    let each' : (i : ℕ) → i < 12 → get_or back i 0 ≡ cond (eqb i x) 0 (get_or p i 0) + fallen x (get_or p x 0) i = rw held each in
    sym (fill_by_all _ back 12 0 size each')

pub bare-from_sown : (back : List ℕ) (x : ℕ) (p : List ℕ) → x < 12 → sown p x ≡ back → get_or back x 0 ≡ 0
bare-from_sown back x p pit sows =
    let own = fallen-own x (get_or p x 0) pit in
    ap (λ b. get_or b x 0) (sym sows) ∙ get_or-map-range_with_len (λ i. cond (eqb i x) 0 (get_or p i 0) + fallen x (get_or p x 0) i) 0 12 x x 0 pit (omega arith) ∙ grind (arith, nat_tests)

pub IsUnsowing-from_sown : (back : List ℕ) (x : ℕ) (p : List ℕ) → x < 12 → length p ≡ 12 → sown p x ≡ back → IsUnsowing back x (get_or p x 0) p
IsUnsowing-from_sown back x p pit size sows =
    let own = fallen-own x (get_or p x 0) pit in
    record {
      size = size;
      each = λ i in_board.
          let e : get_or back i 0 ≡ cond (eqb i x) 0 (get_or p i 0) + fallen x (get_or p x 0) i = ap (λ b. get_or b i 0) (sym sows) ∙ get_or-map-range_with_len (λ i. cond (eqb i x) 0 (get_or p i 0) + fallen x (get_or p x 0) i) 0 12 i i 0 in_board (omega arith) in
          grind (arith, nat_tests, cases_eq i x);
      stones = sym (sum-sown p x size pit) ∙ ap sum sows;
    }

-- there is one board from which k stones were sown
pub unsown-from_IsUnsowing : (back : List ℕ) (x k : ℕ) (p : List ℕ) → x < 12 → IsUnsowing back x k p → get_or back x 0 ≡ 0 → p ≡ unsown back x k
unsown-from_IsUnsowing back x k p pit taken bare =
    let own = fallen-own x k pit in
    let each : (i : ℕ) → i < 12 → get_or p i 0 ≡ cond (eqb i x) k (get_or back i 0 - fallen x k i) = λ i in_board. grind (arith, nat_tests, cases_eq i x, taken.each i in_board) in
    fill_by_all _ p 12 0 taken.size each
