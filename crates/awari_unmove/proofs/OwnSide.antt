-- Quiet moves backward that end on the own side.
use Rattle.std.proofs.Common.{◌≡◌, ℕ, ◌+◌, ◌*◌, ◌-◌, ◌/◌, ◌%◌, ◌<◌, ◌≤◌, ⊎_elim, true, false, List, [], ◌∷◌, length, get_or, Some, None, refl, sym, ap, ◌∙◌, subst, arith}
use Rattle.std.proofs.lemmas.Bool.{cases_lt}
use Rattle.awari_board.specs.Rules.{IsLegal, other_stones, landing}
use Rattle.awari_packed.specs.TakenBack.{taken_back}
use Rattle.awari_unmove.specs.Steps.{has_bit, holds, origin_of, is_end, steps_from, own_unmove, own_unmoves, IsOwnSearch}
use Rattle.awari_unmove.specs.Undoing.{IsUnsowing, TakesBack, unmove}
use Rattle.awari_unmove.proofs.Ends.{origin_of-before, origin_of-between, steps_from-first, steps_from-end, steps_from-same, IsEnd-from_is_end, not_end}
use Rattle.awari_unmove.proofs.Predecessors.{own_unmoves-some, own_unmoves-end}
use Rattle.awari_unmove.proofs.Undoing.{unmove-held, unmove-gives}
use Rattle.awari_unmove.proofs.Unmoving.{unmove-none}
use Rattle.awari_unmove.proofs.Unsowing.{held-from_IsUnsowing}
use Rattle.awari_unmove.proofs.Sown.{held-from_IsUnmove, IsUnsowing-taken, other_stones-taken, captured_stones-own, holds-true, holds-false}

-- where a sowing from it had ended, a pit holds a stone
unmove-bare : (back : List ℕ) (x i : ℕ) → x ≤ i → i < 12 → get_or back i 0 ≡ 0 → unmove back x (i - x) ≡ None
unmove-bare back x i from on_board bare =
    unmove-none back x (i - x) (λ p goes.
    let some = goes.legal.held in
    let less : x < i = omega (arith, goes.held, some) in
    let held = held-from_IsUnmove back x (i - x) i p goes less on_board (omega arith) in
    omega (arith, held, bare))

pub own_unmove-none : (back : List ℕ) (i : ℕ) → i < 6 → is_end (holds back) i ≡ false → own_unmove back i ≡ None
unfolding own_unmove
own_unmove-none back i own is =
    let x = origin_of (holds back) i in
    let before = origin_of-before (holds back) i in
    ⊎_elim (λ empty. unmove-bare back x i (omega (arith, before)) (omega arith) (holds-false back i empty))
    (λ held. unmove-held back x (omega (arith, before)) (holds-true back x held) (i - x)) (not_end (holds back) i is)

-- all that is known of an end
pub record IsOwnEnd (back : List ℕ) (x i : ℕ) : Type 0 where
  pub before : x < i
  pub empty : get_or back x 0 ≡ 0
  pub held : (j : ℕ) → x < j → j ≤ i → 0 < get_or back j 0

pub IsOwnEnd-from_is_end : (back : List ℕ) (i : ℕ) → is_end (holds back) i ≡ true → IsOwnEnd back (origin_of (holds back) i) i
IsOwnEnd-from_is_end back i is =
    let end = IsEnd-from_is_end (holds back) i is in
    record {
      before = end.before;
      empty = holds-false back (origin_of (holds back) i) end.empty;
      held = λ j past far. ⊎_elim (λ less. holds-true back j (origin_of-between (holds back) i j past less)) (λ last. let e : i ≡ j = omega (arith, last, far) in holds-true back j (ap (holds back) (sym e) ∙ end.here)) (cases_lt j i);
    }

pub own_unmove-some : (back : List ℕ) (x i : ℕ) (left : List ℕ) → length back ≡ 12 → i < 6 → 0 < other_stones back → x ≡ origin_of (holds back) i → IsOwnEnd back x i → left ≡ taken_back back x (i - x) → own_unmove back i ≡ Some (left, x)
unfolding own_unmove
own_unmove-some back x i left size own fed from end is =
    let k = i - x in
    let before = end.before in
    let e : x + k ≡ i = omega arith in
    let more : k - 1 + 1 ≡ k = omega arith in
    let unsowing : IsUnsowing back x k left = subst (IsUnsowing back x k) (sym is) (IsUnsowing-taken back x k size (omega arith) (λ j past far. end.held j past (omega (arith, far, e)))) in
    let took : TakesBack back x (k - 1) k left = record { empty = end.empty; more = sym more; unsowing = unsowing } in
    let stones : get_or left x 0 ≡ k = held-from_IsUnsowing back x k left (omega arith) unsowing end.empty in
    let others : other_stones left ≡ other_stones back = ap other_stones is ∙ other_stones-taken back x k (omega arith) in
    let legal : IsLegal left x = record { own = omega arith; held = omega (arith, stones); feeds = λ bare. absurd (omega (arith, bare, others, fed)) } in
    let there : i ≡ landing x k = omega arith in
    ap (λ x. unmove back x (i - x)) (sym from) ∙ unmove-gives back x (k - 1) k left left i size (omega arith) took refl there legal (captured_stones-own back i own)

-- ---- the next end

-- the first end from pit `from` on, its origin, and the steps after it
pub record IsNextEnd (back : List ℕ) (from x end rest : ℕ) : Type 0 where
  pub low : from ≤ end
  pub own : end < 6
  pub before : (i : ℕ) → from ≤ i → i < end → own_unmove back i ≡ None
  pub origin : x ≡ origin_of (holds back) end
  pub here : IsOwnEnd back x end
  pub more : rest ≡ steps_from (holds back) (end + 1) (6 - (end + 1))

pub IsNextEnd-from_search : (back : List ℕ) (steps from : ℕ) → IsOwnSearch back steps from → 0 < steps → IsNextEnd back from (steps % 64 / 8) (steps % 64 % 8) (steps / 64)
IsNextEnd-from_search back steps from now some =
    let low = now.in_range in
    let found = steps_from-first (holds back) from (6 - from) (subst (λ s. 0 < s) now.are some) in
    let end = found.0 in
    let first = found.1 in
    let high = first.high in
    let own : end < 6 = omega (arith, high, low) in
    let all : from + (6 - from) ≡ 6 = omega (arith, low) in
    let x = origin_of (holds back) end in
    let before : x < end = (IsOwnEnd-from_is_end back end first.here).before in
    let more = steps_from (holds back) (end + 1) (6 - (end + 1)) in
    let is : steps ≡ 8 * x + end + 64 * more = now.are ∙ first.are ∙ ap (λ m. 8 * x + end + 64 * steps_from (holds back) (end + 1) (m - (end + 1))) all in
    let is_end : steps % 64 % 8 ≡ end = omega (arith, is, before, own) in
    let is_origin : steps % 64 / 8 ≡ x = omega (arith, is, before, own) in
    let is_rest : steps / 64 ≡ more = omega (arith, is, before, own) in
    subst (λ x. IsNextEnd back from x (steps % 64 % 8) (steps / 64)) (sym is_origin)
    (subst (λ e. IsNextEnd back from x e (steps / 64)) (sym is_end)
    record {
      low = first.low;
      own = own;
      before = λ i from to. own_unmove-none back i (omega (arith, to, own)) (first.before i from to);
      origin = refl;
      here = IsOwnEnd-from_is_end back end first.here;
      more = is_rest;
    })

pub IsOwnSearch-next : (back : List ℕ) (steps from x end rest : ℕ) → IsOwnSearch back steps from → IsNextEnd back from x end rest → IsOwnSearch back rest (end + 1)
IsOwnSearch-next back steps from x end rest now next = record {
  size = now.size;
  in_range = omega (arith, next.own);
  are = next.more;
  fed = λ more. now.fed (let low = next.low in omega (arith, low, next.own));
}

pub own_unmoves-gives : (back : List ℕ) (steps from x end rest : ℕ) (left : List ℕ) → IsOwnSearch back steps from → IsNextEnd back from x end rest → left ≡ taken_back back x (end - x) → own_unmoves back from ≡ (left, x) ∷ own_unmoves back (end + 1)
own_unmoves-gives back steps from x end rest left now next is =
    let low = next.low in
    own_unmoves-some back from end (left, x) low next.own next.before (own_unmove-some back x end left now.size next.own (now.fed (omega (arith, low, next.own))) next.origin next.here is)

pub own_unmoves-none : (back : List ℕ) (steps from : ℕ) → IsOwnSearch back steps from → steps ≡ 0 → own_unmoves back from ≡ []
own_unmoves-none back steps from now none =
    own_unmoves-end back from now.in_range
    (λ i low high. own_unmove-none back i high (steps_from-end (holds back) from (6 - from) (sym now.are ∙ none) i low (omega (arith, high, now.in_range))))

-- where a search begins
pub IsOwnSearch-start : (back : List ℕ) (held steps : ℕ) → length back ≡ 12 → ((i : ℕ) → i < 6 → has_bit held i ≡ holds back i) → 0 < other_stones back → steps ≡ steps_from (has_bit held) 0 6 → IsOwnSearch back steps 0
IsOwnSearch-start back held steps size bits fed is = record {
  size = size;
  in_range = omega arith;
  are = is ∙ steps_from-same (has_bit held) (holds back) 6 0 6 bits (omega arith);
  fed = λ more. fed;
}

-- where the other side is bare, nothing is to come
pub IsOwnSearch-bare : (back : List ℕ) → length back ≡ 12 → IsOwnSearch back 0 6
unfolding steps_from
IsOwnSearch-bare back size = record { size = size; in_range = omega arith; are = refl; fed = λ more. absurd (omega arith) }
