-- A search for quiet moves backward, step by step.
use Rattle.std.proofs.Common.{◌≡◌, ℕ, ◌+◌, ◌-◌, ◌<◌, ◌≤◌, List, [], ◌∷◌, length, get_or, set, sum, Some, None, refl, sym, ap, ◌∙◌, subst, arith}
use Rattle.std.proofs.lemmas.Bool.Decides.{nat_tests}
use Rattle.std.proofs.lemmas.List.Sums.{get_or-le-sum_by}
use Rattle.awari_board.specs.Rules.{IsLegal, landing, captured_stones}
use Rattle.awari_board.proofs.Landing.{feeds_far}
use Rattle.awari_unmove.specs.Undoing.{IsUnsowing, IsUndoing, IsUndoingFrom, TakesBack, unmove, unmoves_after, unmoves_from}
use Rattle.awari_unmove.proofs.Unsowing.{fallen-own, IsUnsowing-stuck, IsUnsowing-moved, IsUnsowing-from_sown, bare-from_sown, held-from_IsUnsowing, sown-from_IsUnsowing, unsown-from_IsUnsowing}
use Rattle.awari_unmove.proofs.Predecessors.{unmoves_after-some, unmoves_after-none, unmoves_after-end, unmoves_from-some, unmoves_from-none, unmoves_from-end}
use Rattle.awari_unmove.proofs.Unmoving.{IsUnmove, unmove-none, unmove-some}

-- no more stones are taken back than there are
pub stones-le : (back : List ℕ) (x k : ℕ) (left : List ℕ) → x < 12 → IsUnsowing back x k left → k ≤ sum back
stones-le back x k left pit taken =
    let each = taken.each x pit in
    let most = get_or-le-sum_by (λ s. s) left x 0 (omega (arith, taken.size)) in
    let own = fallen-own x k pit in
    let e : get_or left x 0 ≡ get_or back x 0 + k = grind (arith, nat_tests) in
    omega (arith, taken.stones)

-- from a pit that is not empty no sowing came
pub unmove-held : (back : List ℕ) (x : ℕ) → x < 12 → 0 < get_or back x 0 → (k : ℕ) → unmove back x k ≡ None
unmove-held back x pit held k = unmove-none back x k (λ p goes. let bare = bare-from_sown back x p pit goes.sows in omega arith)

-- where the pit of the next stone is bare, no sowing of more stones came from here
pub unmove-stuck : (back : List ℕ) (x stones : ℕ) (left : List ℕ) → x < 12 → IsUnsowing back x stones left → get_or left (landing x (stones + 1)) 0 ≡ 0 → (k : ℕ) → stones < k → unmove back x k ≡ None
unmove-stuck back x stones left pit taken bare k more =
    unmove-none back x k (λ p goes. IsUnsowing-stuck back x stones k left p pit taken bare more (subst (λ n. IsUnsowing back x n p) goes.held (IsUnsowing-from_sown back x p pit goes.size goes.sows)))

pub IsUnmove-from_TakesBack : (back : List ℕ) (x before after : ℕ) (left : List ℕ) → length back ≡ 12 → x < 12 → TakesBack back x before after left → IsLegal left x → captured_stones back (landing x after) ≡ 0 → IsUnmove back x after left
IsUnmove-from_TakesBack back x before after left size pit took legal kept = record {
  size = took.unsowing.size;
  held = held-from_IsUnsowing back x after left pit took.unsowing took.empty;
  legal = legal;
  sows = sown-from_IsUnsowing back x after left pit size took.unsowing took.empty;
  kept = kept;
}

-- the board that k stones taken back make is the only one
pub unmove-refused : (back : List ℕ) (x before after : ℕ) (left : List ℕ) → x < 12 → TakesBack back x before after left → (IsLegal left x → captured_stones back (landing x after) ≡ 0 → ⊥) → unmove back x after ≡ None
unmove-refused back x before after left pit took refused =
    unmove-none back x after
    (λ p goes.
    let bare = took.empty in
    let that = unsown-from_IsUnsowing back x after left pit took.unsowing bare in
    let this = unsown-from_IsUnsowing back x after p pit (subst (λ n. IsUnsowing back x n p) goes.held (IsUnsowing-from_sown back x p pit goes.size goes.sows)) bare in
    let same : p ≡ left = this ∙ sym that in
    refused (subst (λ p. IsLegal p x) same goes.legal) goes.kept)

pub unmove-gives : (back : List ℕ) (pit before after : ℕ) (left board : List ℕ) (last : ℕ) → length back ≡ 12 → pit < 6 → TakesBack back pit before after left → board ≡ left → last ≡ landing pit after → IsLegal board pit → captured_stones back last ≡ 0 → unmove back pit after ≡ Some (board, pit)
unmove-gives back pit before after left board last size own took is there legal kept =
    let legal' : IsLegal left pit = subst (λ b. IsLegal b pit) is legal in
    let goes = IsUnmove-from_TakesBack back pit before after left size (omega arith) took legal' (ap (captured_stones back) (sym there) ∙ kept) in
    unmove-some back pit after left goes ∙ ap (λ b. let p : List ℕ × ℕ = (b, pit) in Some p) (sym is)

pub unmove-passes : (back : List ℕ) (pit before after : ℕ) (left board : List ℕ) (last : ℕ) → pit < 6 → TakesBack back pit before after left → board ≡ left → last ≡ landing pit after → (IsLegal board pit × (captured_stones back last ≡ 0) → ⊥) → unmove back pit after ≡ None
unmove-passes back pit before after left board last own took is there refused =
    unmove-refused back pit before after left (omega arith) took (λ legal kept. refused (subst (λ b. IsLegal b pit) (sym is) legal, ap (captured_stones back) there ∙ kept))

pub unmoves_after-gives : (back : List ℕ) (pit before after : ℕ) (left board : List ℕ) (last : ℕ) → length back ≡ 12 → sum back ≤ 48 → pit < 6 → TakesBack back pit before after left → board ≡ left → last ≡ landing pit after → IsLegal board pit → captured_stones back last ≡ 0 → unmoves_after back pit before ≡ (board, pit) ∷ unmoves_after back pit after
unmoves_after-gives back pit before after left board last size few own took is there legal kept =
    let pair : List ℕ × ℕ = (board, pit) in
    let here = unmove-gives back pit before after left board last size own took is there legal kept in
    let most = stones-le back pit after left (omega arith) took.unsowing in
    let more = took.more in
    unmoves_after-some back pit before pair own (omega arith) (ap (unmove back pit) (sym more) ∙ here) ∙ ap (λ n. pair ∷ unmoves_after back pit n) (sym more)

pub unmoves_after-passes : (back : List ℕ) (pit before after : ℕ) (left board : List ℕ) (last : ℕ) → length back ≡ 12 → sum back ≤ 48 → pit < 6 → TakesBack back pit before after left → board ≡ left → last ≡ landing pit after → (IsLegal board pit × (captured_stones back last ≡ 0) → ⊥) → unmoves_after back pit before ≡ unmoves_after back pit after
unmoves_after-passes back pit before after left board last size few own took is there refused =
    let here = unmove-passes back pit before after left board last own took is there refused in
    let most = stones-le back pit after left (omega arith) took.unsowing in
    let more = took.more in
    unmoves_after-none back pit before own (omega arith) (ap (unmove back pit) (sym more) ∙ here) ∙ ap (unmoves_after back pit) (sym more)

pub unmoves_after-done : (back : List ℕ) (pit stones : ℕ) (left : List ℕ) → IsUndoing back pit stones left → 6 ≤ pit → unmoves_after back pit stones ≡ []
unmoves_after-done back pit stones left now past =
    let last : pit ≡ 6 = omega (arith, now.in_range) in
    let none = now.fresh last in
    ap (λ n. unmoves_after back n stones) last ∙ ap (unmoves_after back 6) none ∙ unmoves_after-end back

-- ---- a search in one pit

-- the next stone is taken back
pub TakesBack-next : (back : List ℕ) (pit stones last : ℕ) (left board : List ℕ) → IsUndoingFrom back pit stones last left → get_or back pit 0 ≡ 0 → 0 < get_or left last 0 → board ≡ set (set left last (get_or left last 0 - 1)) pit (get_or left pit 0 + 1) → TakesBack back pit stones (stones + 1) board
TakesBack-next back pit stones last left board now empty held is = record {
  empty = empty;
  more = refl;
  unsowing = subst (IsUnsowing back pit (stones + 1)) (sym is) (IsUnsowing-moved back pit stones left last (omega (arith, now.own)) now.unsowing now.next held);
}

pub IsUndoingFrom-next : (back : List ℕ) (pit stones last next : ℕ) (left board : List ℕ) → IsUndoingFrom back pit stones last left → TakesBack back pit stones (stones + 1) board → next ≡ landing pit (stones + 2) → IsUndoingFrom back pit (stones + 1) next board
IsUndoingFrom-next back pit stones last next left board now took there = record {
  size = now.size;
  few = now.few;
  own = now.own;
  far = omega (arith, now.far);
  unsowing = took.unsowing;
  next = omega (arith, there);
}

-- what goes on to the other side is legal there
pub legal-far : (back : List ℕ) (pit stones last : ℕ) (left board : List ℕ) → IsUndoingFrom back pit stones last left → TakesBack back pit stones (stones + 1) board → IsLegal board pit
legal-far back pit stones last left board now took =
    let own = now.own in
    let far = now.far in
    let held = held-from_IsUnsowing back pit (stones + 1) board (omega (arith, own)) took.unsowing took.empty in
    let fed = feeds_far pit (stones + 1) own (omega (arith, far)) in
    record { own = own; held = omega (arith, held); feeds = λ bare. (fed.0, fed.1, omega (arith, fed.2, held), fed.3) }

stones-few : (back : List ℕ) (pit stones last : ℕ) (left board : List ℕ) → IsUndoingFrom back pit stones last left → TakesBack back pit stones (stones + 1) board → stones < 48
stones-few back pit stones last left board now took =
    let most = stones-le back pit (stones + 1) board (omega (arith, now.own)) took.unsowing in
    omega (arith, most, now.few)

pub unmoves_from-gives : (back : List ℕ) (pit stones last : ℕ) (left board : List ℕ) → IsUndoingFrom back pit stones last left → TakesBack back pit stones (stones + 1) board → IsLegal board pit → captured_stones back last ≡ 0 → unmoves_from back pit stones ≡ (board, pit) ∷ unmoves_from back pit (stones + 1)
unmoves_from-gives back pit stones last left board now took legal kept =
    unmoves_from-some back pit stones (board, pit) (stones-few back pit stones last left board now took)
    (unmove-gives back pit stones (stones + 1) board board last now.size now.own took refl now.next legal kept)

pub unmoves_from-passes : (back : List ℕ) (pit stones last : ℕ) (left board : List ℕ) → IsUndoingFrom back pit stones last left → TakesBack back pit stones (stones + 1) board → (IsLegal board pit × (captured_stones back last ≡ 0) → ⊥) → unmoves_from back pit stones ≡ unmoves_from back pit (stones + 1)
unmoves_from-passes back pit stones last left board now took refused =
    unmoves_from-none back pit stones (stones-few back pit stones last left board now took)
    (unmove-passes back pit stones (stones + 1) board board last now.own took refl now.next refused)

-- a pit that is not empty gives nothing
pub unmoves_from-held : (back : List ℕ) (pit stones last : ℕ) (left : List ℕ) → IsUndoingFrom back pit stones last left → 0 < get_or back pit 0 → unmoves_from back pit stones ≡ []
unmoves_from-held back pit stones last left now held = unmoves_from-end back pit stones (λ k _. unmove-held back pit (omega (arith, now.own)) held k)

-- nor does any more where the next stone's pit is bare
pub unmoves_from-stuck : (back : List ℕ) (pit stones last : ℕ) (left : List ℕ) → IsUndoingFrom back pit stones last left → get_or left last 0 ≡ 0 → unmoves_from back pit stones ≡ []
unmoves_from-stuck back pit stones last left now bare =
    unmoves_from-end back pit stones (unmove-stuck back pit stones left (omega (arith, now.own)) now.unsowing (ap (λ i. get_or left i 0) (sym now.next) ∙ bare))
