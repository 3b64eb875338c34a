-- The quiet moves backward, in their order.
use Rattle.std.proofs.Common.{◌≡◌, ℕ, ◌+◌, ◌-◌, ◌*◌, ◌/◌, ◌%◌, ◌<◌, ◌≤◌, ⊎_elim, inl, inr, List, [], ◌∷◌, ◌++◌, length, get_or, Some, None, Contains, AllPairs, refl, sym, ap, ◌∙◌, subst, arith}
use Rattle.std.proofs.lemmas.Bool.{cases_lt, cases_eq}
use Rattle.std.proofs.lemmas.List.Sums.{get_or-le-sum_by}
use Rattle.std.proofs.lemmas.List.Elements.{Contains-append_cases, Contains-append_left, Contains-append_right}
use Rattle.awari_board.specs.Rules.{IsBoard, turned, other_stones}
use Rattle.awari_board.proofs.Landing.{far_from_feeds}
use Rattle.awari_unmove.specs.Undoing.{unmove, unmove_at, unmoves_after, unmoves_from, listed}
use Rattle.awari_unmove.specs.Predecessors.{IsQuiet, ComesBefore, IsPredecessors, IsOwnPredecessors, IsFarPredecessors}
use Rattle.awari_unmove.specs.Steps.{holds, origin_of, own_unmove, own_unmoves}
use Rattle.awari_unmove.proofs.Listed.{listed-some, listed-none, listed-skips, at-from_Contains, Contains-from_at, AllPairs-listed, AllPairs-append, length-listed}
use Rattle.awari_unmove.proofs.Ends.{origin_of-before, origin_of-grows, origin_of-only}
use Rattle.awari_unmove.proofs.Sown.{held-from_IsUnmove, other_stones-from_IsUnmove, true-holds, false-holds}
use Rattle.awari_unmove.proofs.Unsowing.{bare-from_sown}
use Rattle.awari_unmove.proofs.Unmoving.{IsUnmove, unmove-some, unmove-only}
use Rattle.awari_unmove.proofs.Quiet.{IsQuiet-from_IsUnmove, IsUnmove-from_IsQuiet}

at-place : (back : List ℕ) (x k t : ℕ) → k < 48 → t ≡ 48 * x + k → unmove_at back t ≡ unmove back x (k + 1)
unfolding unmove_at
at-place back x k t fits is =
    let a : t / 48 ≡ x = omega arith in
    let b : t % 48 ≡ k = omega arith in
    ap (λ n. unmove back n (t % 48 + 1)) a ∙ ap (λ n. unmove back x (n + 1)) b

pub unmoves_after-some : (back : List ℕ) (pit stones : ℕ) (e : List ℕ × ℕ) → pit < 6 → stones < 48 → unmove back pit (stones + 1) ≡ Some e → unmoves_after back pit stones ≡ e ∷ unmoves_after back pit (stones + 1)
unfolding unmoves_after
unmoves_after-some back pit stones e own few here =
    let t = 48 * pit + stones in
    let n : 288 - t ≡ (288 - (48 * pit + (stones + 1))) + 1 = omega arith in
    let u : t + 1 ≡ 48 * pit + (stones + 1) = omega arith in
    ap (listed (unmove_at back) t) n ∙ listed-some (unmove_at back) t _ e (at-place back pit stones t few refl ∙ here)
    ∙ ap (λ t. e ∷ listed (unmove_at back) t (288 - (48 * pit + (stones + 1)))) u

pub unmoves_after-none : (back : List ℕ) (pit stones : ℕ) → pit < 6 → stones < 48 → unmove back pit (stones + 1) ≡ None → unmoves_after back pit stones ≡ unmoves_after back pit (stones + 1)
unfolding unmoves_after
unmoves_after-none back pit stones own few here =
    let t = 48 * pit + stones in
    let n : 288 - t ≡ (288 - (48 * pit + (stones + 1))) + 1 = omega arith in
    let u : t + 1 ≡ 48 * pit + (stones + 1) = omega arith in
    ap (listed (unmove_at back) t) n ∙ listed-none (unmove_at back) t _ (at-place back pit stones t few refl ∙ here)
    ∙ ap (λ t. listed (unmove_at back) t (288 - (48 * pit + (stones + 1)))) u

pub unmoves_after-skips : (back : List ℕ) (pit stones : ℕ) → pit < 6 → stones ≤ 48 → ((k : ℕ) → stones < k → unmove back pit k ≡ None) → unmoves_after back pit stones ≡ unmoves_after back (pit + 1) 0
unfolding unmoves_after
unmoves_after-skips back pit stones own few stuck =
    let t = 48 * pit + stones in
    let n : 288 - t ≡ (48 - stones) + (288 - (48 * (pit + 1) + 0)) = omega arith in
    let u : t + (48 - stones) ≡ 48 * (pit + 1) + 0 = omega arith in
    ap (listed (unmove_at back) t) n
    ∙ listed-skips (unmove_at back) (48 - stones) t _ (λ s from to. at-place back pit (s - 48 * pit) s (omega arith) (omega arith) ∙ stuck (s - 48 * pit + 1) (omega arith))
    ∙ ap (λ t. listed (unmove_at back) t (288 - (48 * (pit + 1) + 0))) u

pub unmoves_after-end : (back : List ℕ) → unmoves_after back 6 0 ≡ []
unfolding unmoves_after listed
unmoves_after-end back = refl

pub length-unmoves_after : (back : List ℕ) (pit stones : ℕ) → length (unmoves_after back pit stones) ≤ 288
unfolding unmoves_after
length-unmoves_after back pit stones = omega (arith, length-listed (unmove_at back) (288 - (48 * pit + stones)) (48 * pit + stones))

-- ---- the moves of one pit that go so far

pub unmoves_from-some : (back : List ℕ) (pit stones : ℕ) (e : List ℕ × ℕ) → stones < 48 → unmove back pit (stones + 1) ≡ Some e → unmoves_from back pit stones ≡ e ∷ unmoves_from back pit (stones + 1)
unfolding unmoves_from
unmoves_from-some back pit stones e few here =
    let t = 48 * pit + stones in
    let n : 48 - stones ≡ (48 - (stones + 1)) + 1 = omega arith in
    let u : t + 1 ≡ 48 * pit + (stones + 1) = omega arith in
    ap (listed (unmove_at back) t) n ∙ listed-some (unmove_at back) t _ e (at-place back pit stones t few refl ∙ here) ∙ ap (λ t. e ∷ listed (unmove_at back) t (48 - (stones + 1))) u

pub unmoves_from-none : (back : List ℕ) (pit stones : ℕ) → stones < 48 → unmove back pit (stones + 1) ≡ None → unmoves_from back pit stones ≡ unmoves_from back pit (stones + 1)
unfolding unmoves_from
unmoves_from-none back pit stones few here =
    let t = 48 * pit + stones in
    let n : 48 - stones ≡ (48 - (stones + 1)) + 1 = omega arith in
    let u : t + 1 ≡ 48 * pit + (stones + 1) = omega arith in
    ap (listed (unmove_at back) t) n ∙ listed-none (unmove_at back) t _ (at-place back pit stones t few refl ∙ here) ∙ ap (λ t. listed (unmove_at back) t (48 - (stones + 1))) u

pub unmoves_from-end : (back : List ℕ) (pit stones : ℕ) → ((k : ℕ) → stones < k → unmove back pit k ≡ None) → unmoves_from back pit stones ≡ []
unfolding unmoves_from listed
unmoves_from-end back pit stones stuck =
    let t = 48 * pit + stones in
    let n : 48 - stones ≡ (48 - stones) + 0 = omega arith in
    ap (listed (unmove_at back) t) n
    ∙ listed-skips (unmove_at back) (48 - stones) t 0 (λ s from to. at-place back pit (s - 48 * pit) s (omega arith) (omega arith) ∙ stuck (s - 48 * pit + 1) (omega arith))

pub length-unmoves_from : (back : List ℕ) (pit stones : ℕ) → length (unmoves_from back pit stones) ≤ 48
unfolding unmoves_from
length-unmoves_from back pit stones = omega (arith, length-listed (unmove_at back) (48 - stones) (48 * pit + stones))

-- ---- what is listed

-- what a range gives is a quiet move, of a pit of the range
listed-quiet : (q : List ℕ) (t n : ℕ) (p : List ℕ) (x : ℕ) → IsBoard q → Contains (listed (unmove_at (turned q)) t n) (p, x) → IsQuiet p x q × ((s : ℕ) × (t ≤ s) × (s < t + n) × (x ≡ s / 48))
unfolding unmove_at
listed-quiet q t n p x whole has =
    let at = at-from_Contains (unmove_at (turned q)) n t (p, x) has in
    let is = unmove-only (turned q) (at.0 / 48) (at.0 % 48 + 1) (p, x) at.3 in
    (subst (λ x. IsQuiet p x q) (sym is.0) (IsQuiet-from_IsUnmove q (at.0 / 48) (at.0 % 48 + 1) p whole is.1), (at.0, at.1, at.2, is.0))

-- and a quiet move of a pit of which all is in the range is given
quiet-listed : (q : List ℕ) (t n : ℕ) (p : List ℕ) (x : ℕ) → IsQuiet p x q → t ≤ 48 * x → 48 * x + 48 ≤ t + n → Contains (listed (unmove_at (turned q)) t n) (p, x)
quiet-listed q t n p x quiet low high =
    let held = quiet.move.legal.held in
    let few : get_or p x 0 ≤ 48 = omega (arith, get_or-le-sum_by (λ s. s) p x 0 (omega (arith, quiet.board.pits, quiet.move.legal.own)), quiet.board.stones) in
    let k = get_or p x 0 - 1 in
    let more : k + 1 ≡ get_or p x 0 = omega arith in
    let goes : IsUnmove (turned q) x (k + 1) p = subst (λ n. IsUnmove (turned q) x n p) (sym more) (IsUnmove-from_IsQuiet q x p quiet) in
    Contains-from_at (unmove_at (turned q)) n t (48 * x + k) (p, x) (omega arith) (omega arith) (at-place (turned q) x k (48 * x + k) (omega arith) refl ∙ unmove-some (turned q) x (k + 1) p goes)

listed-ordered : (q : List ℕ) (t n : ℕ) → AllPairs ComesBefore (listed (unmove_at (turned q)) t n)
unfolding unmove_at
listed-ordered q t n = AllPairs-listed ComesBefore (unmove_at (turned q)) n t before
  where
    before : (s u : ℕ) (a b : List ℕ × ℕ) → s < u → unmove_at (turned q) s ≡ Some a → unmove_at (turned q) u ≡ Some b → ComesBefore a b
    before s u a b lt is_a is_b =
        let one = unmove-only (turned q) (s / 48) (s % 48 + 1) a is_a in
        let two = unmove-only (turned q) (u / 48) (u % 48 + 1) b is_b in
        let one_held : get_or a.0 a.1 0 ≡ s % 48 + 1 = ap (λ x. get_or a.0 x 0) one.0 ∙ one.1.held in
        let two_held : get_or b.0 b.1 0 ≡ u % 48 + 1 = ap (λ x. get_or b.0 x 0) two.0 ∙ two.1.held in
        ⊎_elim (λ less. inl (omega (arith, less, one.0, two.0))) (λ more. inr (omega (arith, more, one.0, two.0), omega (arith, more))) (cases_lt (s / 48) (u / 48))

pub IsPredecessors-start : (q : List ℕ) → IsBoard q → IsPredecessors q (unmoves_after (turned q) 0 0)
unfolding unmoves_after
IsPredecessors-start q whole = record {
  listed = λ p x. (λ has. (listed-quiet q 0 288 p x whole has).0, λ quiet. quiet-listed q 0 288 p x quiet (omega arith) (omega (arith, quiet.move.legal.own)));
  ordered = listed-ordered q 0 288;
}

-- ---- moves that end on the own side

pub length-own_unmoves : (back : List ℕ) (j : ℕ) → length (own_unmoves back j) ≤ 6
unfolding own_unmoves
length-own_unmoves back j = omega (arith, length-listed (own_unmove back) (6 - j) j)

-- the next that is given
pub own_unmoves-some : (back : List ℕ) (j end : ℕ) (e : List ℕ × ℕ) → j ≤ end → end < 6 → ((i : ℕ) → j ≤ i → i < end → own_unmove back i ≡ None) → own_unmove back end ≡ Some e → own_unmoves back j ≡ e ∷ own_unmoves back (end + 1)
unfolding own_unmoves
own_unmoves-some back j end e low own before here =
    let m = end - j in
    let n : 6 - j ≡ m + (6 - end) = omega arith in
    let t : j + m ≡ end = omega arith in
    let one : 6 - end ≡ (6 - (end + 1)) + 1 = omega arith in
    ap (listed (own_unmove back) j) n
    ∙ listed-skips (own_unmove back) m j (6 - end) (λ i from to. before i from (omega (arith, to, t)))
    ∙ ap (λ t. listed (own_unmove back) t (6 - end)) t
    ∙ ap (listed (own_unmove back) end) one
    ∙ listed-some (own_unmove back) end (6 - (end + 1)) e here

pub own_unmoves-end : (back : List ℕ) (j : ℕ) → j ≤ 6 → ((i : ℕ) → j ≤ i → i < 6 → own_unmove back i ≡ None) → own_unmoves back j ≡ []
unfolding own_unmoves listed
own_unmoves-end back j low before =
    let n : 6 - j ≡ (6 - j) + 0 = omega arith in
    ap (listed (own_unmove back) j) n ∙ listed-skips (own_unmove back) (6 - j) j 0 (λ i from to. before i from (omega (arith, to, low)))

-- what is given at pit j
record IsOwnUnmove (back : List ℕ) (j : ℕ) (e : List ℕ × ℕ) : Type 0 where
  pub from : e.1 ≡ origin_of (holds back) j
  pub stones : get_or e.0 e.1 0 ≡ j - origin_of (holds back) j
  pub goes : IsUnmove back (origin_of (holds back) j) (j - origin_of (holds back) j) e.0

IsOwnUnmove-from_own_unmove : (back : List ℕ) (j : ℕ) (e : List ℕ × ℕ) → own_unmove back j ≡ Some e → IsOwnUnmove back j e
unfolding own_unmove
IsOwnUnmove-from_own_unmove back j e here =
    let is = unmove-only back (origin_of (holds back) j) (j - origin_of (holds back) j) e here in
    record { from = is.0; stones = ap (λ x. get_or e.0 x 0) is.0 ∙ is.1.held; goes = is.1 }

own-quiet : (q : List ℕ) (p : List ℕ) (x : ℕ) → IsBoard q → Contains (own_unmoves (turned q) 0) (p, x) → IsQuiet p x q × (x + get_or p x 0 < 6)
unfolding own_unmoves
own-quiet q p x whole has =
    let at = at-from_Contains (own_unmove (turned q)) 6 0 (p, x) has in
    let is = IsOwnUnmove-from_own_unmove (turned q) at.0 (p, x) at.3 in
    let low = origin_of-before (holds (turned q)) at.0 in (
      subst (λ x. IsQuiet p x q) (sym is.from) (IsQuiet-from_IsUnmove q (origin_of (holds (turned q)) at.0) (at.0 - origin_of (holds (turned q)) at.0) p whole is.goes),
      omega (arith, is.from, is.stones, low, at.2),
    )

-- the origin of a sowing that went so far is the last empty pit before
pub origin_of-unmove : (back : List ℕ) (x k j : ℕ) (p : List ℕ) → IsUnmove back x k p → x < j → j ≤ 6 → j ≤ x + k → origin_of (holds back) j ≡ x
origin_of-unmove back x k j p goes less own far =
    let bare = bare-from_sown back x p (omega (arith, goes.legal.own)) goes.sows in
    origin_of-only (holds back) j x less (false-holds back x bare) (λ i past in_range. true-holds back i (held-from_IsUnmove back x k i p goes past (omega (arith, in_range, own)) (omega (arith, in_range, far))))

quiet-own : (q : List ℕ) (p : List ℕ) (x : ℕ) → IsQuiet p x q → x + get_or p x 0 < 6 → Contains (own_unmoves (turned q) 0) (p, x)
unfolding own_unmoves own_unmove
quiet-own q p x quiet near =
    let back = turned q in
    let k = get_or p x 0 in
    let goes = IsUnmove-from_IsQuiet q x p quiet in
    let some = quiet.move.legal.held in
    let from : origin_of (holds back) (x + k) ≡ x = origin_of-unmove back x k (x + k) p goes (omega arith) (omega arith) (omega arith) in
    let stones : x + k - x ≡ k = omega arith in
    Contains-from_at (own_unmove back) 6 0 (x + k) (p, x) (omega arith) (omega arith)
    (ap (λ y. unmove back y (x + k - y)) from ∙ ap (unmove back x) stones ∙ unmove-some back x k p goes)

own-ordered : (q : List ℕ) → AllPairs ComesBefore (own_unmoves (turned q) 0)
unfolding own_unmoves
own-ordered q = AllPairs-listed ComesBefore (own_unmove (turned q)) 6 0 before
  where
    before : (s u : ℕ) (a b : List ℕ × ℕ) → s < u → own_unmove (turned q) s ≡ Some a → own_unmove (turned q) u ≡ Some b → ComesBefore a b
    before s u a b lt is_a is_b =
        let held = holds (turned q) in
        let one = IsOwnUnmove-from_own_unmove (turned q) s a is_a in
        let two = IsOwnUnmove-from_own_unmove (turned q) u b is_b in
        let e : s + (u - s) ≡ u = omega arith in
        let grows : origin_of held s ≤ origin_of held u = subst (λ n. origin_of held s ≤ origin_of held n) e (origin_of-grows held s (u - s)) in
        let some = one.goes.legal.held in
        ⊎_elim (λ less. inl (omega (arith, less, one.from, two.from)))
        (λ more. inr (omega (arith, more, grows, one.from, two.from), omega (arith, more, grows, one.stones, two.stones, one.goes.held, some)))
        (cases_lt (origin_of held s) (origin_of held u))

pub IsOwnPredecessors-start : (q : List ℕ) → IsBoard q → IsOwnPredecessors q (own_unmoves (turned q) 0)
IsOwnPredecessors-start q whole = record {
  listed = λ p x. (λ has. own-quiet q p x whole has, λ quiet. quiet-own q p x quiet.0 quiet.1);
  ordered = own-ordered q;
}

-- where the other side is bare, there is none
pub IsOwnPredecessors-bare : (q : List ℕ) → IsBoard q → other_stones (turned q) ≡ 0 → IsOwnPredecessors q (own_unmoves (turned q) 6)
unfolding own_unmoves listed
IsOwnPredecessors-bare q whole bare = record {
  listed = λ p x. (λ has. absurd (omega (arith, has.1)), λ quiet. absurd (never p x quiet.0 quiet.1));
  ordered = λ i j d lt inside. absurd (omega arith);
}
  where
    never : (p : List ℕ) (x : ℕ) → IsQuiet p x q → x + get_or p x 0 < 6 → ⊥
    never p x quiet near =
        let goes = IsUnmove-from_IsQuiet q x p quiet in
        let own = quiet.move.legal.own in
        let size : length (turned q) ≡ 12 = ap length (sym goes.sows) in
        let same = other_stones-from_IsUnmove (turned q) x (get_or p x 0) p size goes (bare-from_sown (turned q) x p (omega (arith, own)) goes.sows) near in
        let fed = quiet.move.legal.feeds (same ∙ bare) in
        let far = far_from_feeds x (get_or p x 0) fed.0 fed.1 fed.2 fed.3 in
        omega (arith, far, near)

-- ---- moves that go on to the other side

far-quiet : (q : List ℕ) (h : ℕ) (p : List ℕ) (x : ℕ) → IsBoard q → h < 6 → Contains (unmoves_from (turned q) h (5 - h)) (p, x) → IsQuiet p x q × (6 ≤ x + get_or p x 0)
unfolding unmoves_from unmove_at
far-quiet q h p x whole own has =
    let at = at-from_Contains (unmove_at (turned q)) (48 - (5 - h)) (48 * h + (5 - h)) (p, x) has in
    let is = unmove-only (turned q) (at.0 / 48) (at.0 % 48 + 1) (p, x) at.3 in
    let stones : get_or p x 0 ≡ at.0 % 48 + 1 = ap (λ x. get_or p x 0) is.0 ∙ is.1.held in (
      subst (λ x. IsQuiet p x q) (sym is.0) (IsQuiet-from_IsUnmove q (at.0 / 48) (at.0 % 48 + 1) p whole is.1),
      (let from = is.0 in omega (arith, stones, from, at.1, at.2, own)),
    )

quiet-far : (q : List ℕ) (h : ℕ) (p : List ℕ) (x : ℕ) → h ≡ origin_of (holds (turned q)) 6 → IsQuiet p x q → 6 ≤ x + get_or p x 0 → Contains (unmoves_from (turned q) h (5 - h)) (p, x)
unfolding unmoves_from
quiet-far q h p x last quiet far =
    let goes = IsUnmove-from_IsQuiet q x p quiet in
    let held = quiet.move.legal.held in
    let own = quiet.move.legal.own in
    let few : get_or p x 0 ≤ 48 = omega (arith, get_or-le-sum_by (λ s. s) p x 0 (omega (arith, quiet.board.pits, own)), quiet.board.stones) in
    let here : x ≡ h = sym (origin_of-unmove (turned q) x (get_or p x 0) 6 p goes own (omega arith) far) ∙ sym last in
    let k = get_or p x 0 - 1 in
    let more : get_or p x 0 ≡ k + 1 = omega arith in
    Contains-from_at (unmove_at (turned q)) (48 - (5 - h)) (48 * h + (5 - h)) (48 * x + k) (p, x) (omega arith) (omega arith)
    (at-place (turned q) x k (48 * x + k) (omega arith) refl ∙ ap (unmove (turned q) x) (sym more) ∙ unmove-some (turned q) x (get_or p x 0) p goes)

pub IsFarPredecessors-start : (q : List ℕ) (h : ℕ) → IsBoard q → h < 6 → h ≡ origin_of (holds (turned q)) 6 → IsFarPredecessors q (unmoves_from (turned q) h (5 - h))
unfolding unmoves_from
IsFarPredecessors-start q h whole own last = record {
  listed = λ p x. (λ has. far-quiet q h p x whole own has, λ quiet. quiet-far q h p x last quiet.0 quiet.1);
  ordered = listed-ordered q (48 * h + (5 - h)) (48 - (5 - h));
}

-- ---- both, one after the other

own-before-far : (q p r : List ℕ) (x y : ℕ) → IsQuiet p x q → x + get_or p x 0 < 6 → IsQuiet r y q → 6 ≤ y + get_or r y 0 → ComesBefore (p, x) (r, y)
own-before-far q p r x y one near two far =
    let goes = IsUnmove-from_IsQuiet q x p one in
    let over = IsUnmove-from_IsQuiet q y r two in
    let own = one.move.legal.own in
    let bare = bare-from_sown (turned q) x p (omega (arith, own)) goes.sows in
    ⊎_elim (λ less. inl less)
    (λ past. ⊎_elim (λ same. inr (same, omega (arith, same, near, far)))
    (λ other. let held = held-from_IsUnmove (turned q) y (get_or r y 0) x r over (omega (arith, past, other)) (omega (arith, own)) (omega (arith, own, far)) in absurd (omega (arith, held, bare)))
    (cases_eq x y))
    (cases_lt x y)

pub IsPredecessors-from_both : (q : List ℕ) (own far : List (List ℕ × ℕ)) → IsOwnPredecessors q own → IsFarPredecessors q far → IsPredecessors q (own ++ far)
IsPredecessors-from_both q own far first then = record {
  listed = λ p x. (
    λ has. ⊎_elim (λ left. ((first.listed p x).0 left).0) (λ right. ((then.listed p x).0 right).0) (Contains-append_cases own far (p, x) has),
    λ quiet. ⊎_elim (λ near. Contains-append_left own far (p, x) ((first.listed p x).1 (quiet, near)))
        (λ over. Contains-append_right own far (p, x) ((then.listed p x).1 (quiet, over))) (cases_lt (x + get_or p x 0) 6),
  );
  ordered = AllPairs-append ComesBefore own far first.ordered then.ordered
      (λ a b left right. let one = (first.listed a.0 a.1).0 left in let two = (then.listed b.0 b.1).0 right in own-before-far q a.0 b.0 a.1 b.1 one.0 one.1 two.0 two.1);
}
