-- What a move keeps, from the definitions alone.
use Rattle.std.proofs.Common.{◌≡◌, ℕ, zero, suc, ◌+◌, ◌<◌, ◌==◌, cond, true, false, List, [], length, get_or, set, sum, take, drop, ap, sym, refl, ◌∙◌, add-one, arith}
use Rattle.std.proofs.lemmas.Bool.{cases_lt, cases_Bool}
use Rattle.std.proofs.lemmas.List.Sums.{sum_by-take-drop, sum_by-append}
use Rattle.std.proofs.Common.{⊎_elim}
use Rattle.awari_board.specs.Rules.{landing, sown, run, emptied, is_takeable, turned, captured_pits, captured_stones, captured, other_stones, last_pit, IsMove, IsBoard}
use Rattle.awari_board.proofs.Falling.{IsSowing, IsSowing-none, IsSowing-more, sown-from_IsSowing}
use Rattle.awari_board.proofs.Capturing.{emptied-none, IsCapturing, IsCapturing-none, IsCapturing-more, run_to, run_to-end, run_to-own, taken-from_IsCapturing, emptied-from_IsCapturing}

-- a sowing can be followed to any stone
sowing : (board : List ℕ) (x k : ℕ) → length board ≡ 12 → x < 12 → (pits : List ℕ) × IsSowing board x k pits
sowing board x zero size pit = (set board x 0, IsSowing-none board x size pit)
sowing board x (suc k) size pit =
    let before = sowing board x k size pit in
    let last = landing x (k + 1) in
    rw (← add-one k) (set before.0 last (get_or before.0 last 0 + 1), IsSowing-more board x k before.0 last before.1 (omega arith) refl)

pub sum-sown : (board : List ℕ) (x : ℕ) → length board ≡ 12 → x < 12 → sum (sown board x) ≡ sum board
sum-sown board x size pit =
    let all = sowing board x (get_or board x 0) size pit in
    ap sum (sym (sown-from_IsSowing board x _ all.0 refl all.1)) ∙ omega (arith, all.1.stones)

-- a capture can be followed to its end
capturing : (board : List ℕ) (last n taken : ℕ) (left : List ℕ) → length board ≡ 12 → last < 12 → IsCapturing board last n taken left → (end taken' : ℕ) × (left' : List ℕ) × IsCapturing board last end taken' left' × (run_to board end ≡ [])
capturing board last zero taken left size here before = (zero, taken, left, before, run_to-own board 0 (omega arith))
capturing board last (suc n) taken left size here before =
    ⊎_elim (λ own. (suc n, taken, left, before, run_to-own board (suc n) (omega arith)))
    (λ far. ⊎_elim (λ takes. capturing board last n _ _ size here (IsCapturing-more board last (suc n) n taken left size here before (omega arith) far takes))
    (λ stops. (suc n, taken, left, before, run_to-end board last (suc n) n taken left size here before (omega arith) far stops))
    (cases_Bool (is_takeable (get_or left n 0))))
    (cases_lt n 6)

pub sum-emptied : (board : List ℕ) (last : ℕ) → length board ≡ 12 → last < 12 → sum (emptied board last (length (run board last))) + sum (run board last) ≡ sum board
sum-emptied board last size here =
    let all = capturing board last (last + 1) 0 board size here (IsCapturing-none board last size here) in
    let left = emptied-from_IsCapturing board last all.0 all.1 all.2 all.3 all.4 in
    let taken = taken-from_IsCapturing board last all.0 all.1 all.2 all.3 all.4 in
    let kept = all.3.kept in
    ap (λ pits. sum pits + sum (run board last)) (sym left) ∙ ap (λ n. sum all.2 + n) (sym taken) ∙ kept

pub sum-turned : (board : List ℕ) → sum (turned board) ≡ sum board
sum-turned board = sum_by-append (λ x. x) (drop 6 board) (take 6 board) ∙ omega (arith, sum_by-take-drop (λ x. x) board 6)

sum-captured : (board : List ℕ) (last : ℕ) → length board ≡ 12 → last < 12 → sum (emptied board last (captured_pits board last)) + captured_stones board last ≡ sum board
sum-captured board last size here =
    elim (sum (run board last) == other_stones board) as (λ slam. sum (emptied board last (cond slam 0 (length (run board last)))) + cond slam 0 (sum (run board last)) ≡ sum board) [
      | true ↦ ap (λ pits. sum pits + 0) (sym (emptied-none board last size)) ∙ omega arith
      | false ↦ sum-emptied board last size here
    ]

-- a move leaves a board, and loses no stone but those that it captures
pub sum-from_IsMove : (board : List ℕ) (x c : ℕ) (next : List ℕ) → length board ≡ 12 → IsMove board x c next → sum next + c ≡ sum board
sum-from_IsMove board x c next size move =
    let own : x < 6 = move.legal.own in
    let strewn = sown board x in
    let last = last_pit board x in
    let left = emptied strewn last (captured_pits strewn last) in
    ap (λ n. sum next + n) move.captures ∙ ap (λ pits. sum pits + captured board x) move.leaves ∙ ap (λ n. n + captured board x) (sum-turned left)
    ∙ sum-captured strewn last refl (omega arith) ∙ sum-sown board x size (omega arith)

pub IsBoard-next : (board : List ℕ) (x c : ℕ) (next : List ℕ) → IsBoard board → IsMove board x c next → IsBoard next
IsBoard-next board x c next whole move = record {
  pits = ap length move.leaves;
  stones = omega (arith, sum-from_IsMove board x c next whole.pits move, whole.stones);
}
