-- Stones taken back, by one addition from a table.
use Rattle.std.proofs.Common.{◌≡◌, ◌≢◌, ℕ, zero, suc, ◌+◌, ◌*◌, ◌-◌, ◌%◌, ◌^◌, ◌<◌, ◌≤◌, Bool, true, eqb, List, get_or, set, refl, sym, ap, ◌∙◌, subst, arith}
use Rattle.std.proofs.lemmas.Bool.Decides.{Decides-eqb}
use Rattle.std.proofs.lemmas.List.{get_or-set_other}
use Rattle.awari_packed.specs.Packed.{pits_of, IsPacking, IsPackOf, packed-pits_of}
use Rattle.awari_packed.specs.TakenBack.{taken_back}
use Rattle.awari_packed.specs.declared.taking_back.TheConstants.{TAKEN_BACK}
use Rattle.awari_packed.proofs.Digits.{long-pits_of, pits-from_IsPackOf, IsPacking-from_IsPackOf}
use Rattle.awari_rank.proofs.Table.{all_below, below_all}
use Rattle.awari_packed.proofs.Moving.{stone_moved, stone_moves}

unfoldable pub at : ℕ → ℕ → ℕ
at x last = get_or TAKEN_BACK (8 * x + last) 0

-- a stone in pit i, as a number
abbrev one_in : ℕ → ℕ
one_in i = 1 * 2 ^ (55 - 5 * i) % 18446744073709551616

start_ok : all_below (λ x. eqb (at x x) 0) 6 ≡ true
unfolding all_below at
start_ok = refl

more_ok : all_below (λ x. all_below (λ k. eqb (at x (x + k + 1) + one_in (x + k + 1)) (at x (x + k) + one_in x)) (5 - x)) 6 ≡ true
unfolding all_below at
more_ok = refl

start_is : (x : ℕ) → x < 6 → at x x ≡ 0
start_is x own = (Decides-eqb (at x x) 0).0 (below_all (λ x. eqb (at x x) 0) 6 start_ok x own)

more_is : (x k : ℕ) → x + k + 1 < 6 → at x (x + k + 1) + one_in (x + k + 1) ≡ at x (x + k) + one_in x
more_is x k own =
    let p : ℕ → Bool = λ k. eqb (at x (x + k + 1) + one_in (x + k + 1)) (at x (x + k) + one_in x) in
    let rows : ℕ → Bool = λ x. all_below (λ k. eqb (at x (x + k + 1) + one_in (x + k + 1)) (at x (x + k) + one_in x)) (5 - x) in
    (Decides-eqb (at x (x + k + 1) + one_in (x + k + 1)) (at x (x + k) + one_in x)).0 (below_all p (5 - x) (below_all rows 6 more_ok x (omega arith)) k (omega arith))

-- the pits further on are as they were
pub taken_back-past : (b : List ℕ) (x k i : ℕ) → x + k < i → get_or (taken_back b x k) i 0 ≡ get_or b i 0
unfolding taken_back
taken_back-past b x zero i past = refl
taken_back-past b x (suc k) i past =
    let left = taken_back b x k in
    let one = set left (x + k + 1) (get_or left (x + k + 1) 0 - 1) in
    let from : i ≢ x + k + 1 = omega arith in
    let to : i ≢ x = omega arith in
    get_or-set_other one x i (get_or left x 0 + 1) 0 to ∙ get_or-set_other left (x + k + 1) i (get_or left (x + k + 1) 0 - 1) 0 from ∙ taken_back-past b x k i (omega arith)

pub taken_back_is : (n x k : ℕ) → IsPacking n → x + k < 6 → ((i : ℕ) → x < i → i ≤ x + k → 0 < get_or (pits_of n) i 0) → IsPackOf (n + at x (x + k)) (taken_back (pits_of n) x k)
unfolding taken_back
taken_back_is n x zero is own held =
    let none : n + at x (x + 0) ≡ n = omega (arith, start_is x (omega arith), ap (at x) (let e : x + 0 ≡ x = omega arith in e)) in
    record {
      long = long-pits_of n;
      few = is.few;
      number = none ∙ sym (packed-pits_of n is.top);
    }
taken_back_is n x (suc k) is own held =
    let before = taken_back_is n x k is (omega arith) (λ i low high. held i low (omega arith)) in
    let m = n + at x (x + k) in
    let left = pits-from_IsPackOf before in
    let two : x ≢ x + k + 1 = omega arith in
    let here : 0 < get_or (pits_of m) (x + k + 1) 0
    = subst (λ b. 0 < get_or b (x + k + 1) 0) (sym left) (subst (λ s. 0 < s) (sym (taken_back-past (pits_of n) x k (x + k + 1) (omega arith))) (held (x + k + 1) (omega arith) (omega arith)))
    in
    let moved = stone_moves m (x + k + 1) x (IsPacking-from_IsPackOf before) (omega arith) (omega arith) two here in
    let e : x + suc k ≡ x + k + 1 = omega arith in
    let same : n + at x (x + suc k) ≡ m - one_in (x + k + 1) + one_in x = omega (arith, ap (at x) e, more_is x k (omega arith), moved.taken) in
    subst (λ o. IsPackOf o (stone_moved (taken_back (pits_of n) x k) (x + k + 1) x)) (sym same) (subst (λ b. IsPackOf (m - one_in (x + k + 1) + one_in x) (stone_moved b (x + k + 1) x)) left moved.is)

-- the same by the pit where they end
pub taken_back_to : (n x last : ℕ) → IsPacking n → x ≤ last → last < 6 → ((i : ℕ) → x < i → i ≤ last → 0 < get_or (pits_of n) i 0) → IsPackOf (n + at x last) (taken_back (pits_of n) x (last - x))
taken_back_to n x last is from own held =
    let e : x + (last - x) ≡ last = omega arith in
    subst (λ l. IsPackOf (n + at x l) (taken_back (pits_of n) x (last - x))) e (taken_back_is n x (last - x) is (omega (arith, e, own)) (λ i low high. held i low (omega (arith, e, high))))
