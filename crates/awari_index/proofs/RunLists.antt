-- The runs of a level, one after the other.
use Rattle.std.proofs.Common.{◌≡◌, ℕ, ◌+◌, ◌*◌, ◌-◌, ◌<◌, ◌≤◌, ◌⊎◌, inl, inr, min, List, [], ◌∷◌, ◌++◌, length, map, get_or, sum, drop, Option, Some, None, IfNone, IfSome, refl, sym, ◌∙◌, ap, subst, subst₂, take, arith, length-append}
use Rattle.std.proofs.lemmas.Bool.{cases_lt}
use Rattle.std.proofs.lemmas.List.{get_or_append_left, get_or-append_right, get_or_default, get_or-map, length-map}
use Rattle.awari_board.specs.Rules.{IsBoard}
use Rattle.awari_rank.specs.Fillings.{none}
use Rattle.awari_rank.specs.Rank.{rank_of, size_of}
use Rattle.awari_rank.proofs.Ranking.{rank_fixes, rank_of-below}
use Rattle.awari_index.specs.Runs.{AreAllTails, AreRuns, AreWindows, EndsRun, IsBoardAt, IsHead, IsStretch, board_in, fillings, first_of, no_run, starts_to}
use Rattle.awari_index.specs.declared.runs.Run.{Run}
use Rattle.awari_index.proofs.Halving.{few_rest, rank_none, run_board}
use Rattle.awari_rank.proofs.Reaching.{size_of-positive}

-- where the runs end that were listed: where the next one begins, or at the end of the level
abbrev pub end_of : ℕ → Option Run → ℕ
end_of n None = size_of n
end_of n (Some run) = run.start

map_append : (xs ys : List Run) → map (λ (r : Run). r.start) (xs ++ ys) ≡ map (λ (r : Run). r.start) xs ++ map (λ (r : Run). r.start) ys
map_append [] ys = refl
map_append (x ∷ xs) ys = ap (λ l. x.start ∷ l) (map_append xs ys)

starts_more : (runs : List Run) (run : Run) (end end' : ℕ) → run.start ≡ end → starts_to (runs ++ run ∷ []) end' ≡ starts_to runs end ++ end' ∷ []
starts_more runs run end end' is = ap (λ l. l ++ end' ∷ []) (map_append runs (run ∷ []) ∙ ap (λ e. map (λ (r : Run). r.start) runs ++ e ∷ []) is)

pub AreRuns-none : (n : ℕ) (starts : List ℕ) (end : ℕ) → end ≡ 0 → AreRuns n starts [] end
AreRuns-none n starts end is = record { first = is; head = λ i h. absurd (omega arith); next = λ i h. absurd (omega arith) }

pub AreRuns-more : (n : ℕ) (starts : List ℕ) (runs : List Run) (run : Run) (end' : ℕ) → AreRuns n starts runs run.start → IsHead n run → end' ≡ run.start + fillings starts run.stones → AreRuns n starts (runs ++ run ∷ []) end'
AreRuns-more n starts runs run end' are head is = record {
  first = ap (λ l. get_or l 0 0) more ∙ get_or_append_left before (end' ∷ []) 0 0 (omega (arith, long)) ∙ are.first;
  head = λ i h. elim (cases_lt i (length runs)) [
    | inl less ↦ subst (IsHead n) (sym (get_or_append_left runs (run ∷ []) no_run i less)) (are.head i less)
    | inr ge ↦ subst (IsHead n) (sym (last i h ge)) head
  ];
  next = λ i h. elim (cases_lt i (length runs)) [
    | inl less ↦ ap (λ l. get_or l (i + 1) 0) more ∙ get_or_append_left before (end' ∷ []) 0 (i + 1) (omega (arith, long, less)) ∙ are.next i less
        ∙ ap (λ (r : Run). r.start + fillings starts r.stones) (sym (get_or_append_left runs (run ∷ []) no_run i less))
    | inr ge ↦
        let place : i + 1 - length before ≡ 0 = (let many = length-append runs (run ∷ []) in omega (arith, h, ge, long, many)) in
        ap (λ l. get_or l (i + 1) 0) more ∙ get_or-append_right before (end' ∷ []) (length before) (i + 1) 0 refl (omega (arith, ge, long)) ∙ ap (λ m. get_or (end' ∷ []) m 0) place ∙ is
        ∙ ap (λ (r : Run). r.start + fillings starts r.stones) (sym (last i h ge))
  ];
}
  where
    before : List ℕ
    before = starts_to runs run.start

    long : length before ≡ length runs + 1
    long = length-append (map (λ (r : Run). r.start) runs) (run.start ∷ []) ∙ ap (λ m. m + 1) (length-map runs (λ (r : Run). r.start))

    more : starts_to (runs ++ run ∷ []) end' ≡ before ++ end' ∷ []
    more = starts_more runs run run.start end' refl

    last : (i : ℕ) → i < length (runs ++ run ∷ []) → length runs ≤ i → get_or (runs ++ run ∷ []) i no_run ≡ run
    last i h ge =
        let place : i - length runs ≡ 0 = (let many = length-append runs (run ∷ []) in omega (arith, h, ge, many)) in
        get_or-append_right runs (run ∷ []) (length runs) i no_run refl ge ∙ ap (λ m. get_or (run ∷ []) m no_run) place

-- the first board of a level is the first of a run
pub first_head : (n : ℕ) (board : List ℕ) → IsBoard board → sum board ≡ n → rank_of board ≡ 0 → IsHead n (record { board = board; start = rank_of board; stones = get_or board 11 0 })
first_head n board is stones rank =
    let sum_first : sum (none ++ first_of n) ≡ n = omega arith in
    let same : board ≡ none ++ first_of n = rank_fixes board (none ++ first_of n) is.pits refl (stones ∙ sym sum_first) (rank ∙ sym (rank_none n)) in
    let eleven : get_or board 11 0 ≡ n = ap (λ (l : List ℕ). get_or l 11 0) same in
    record { at = record { board = is; stones = stones; rank = refl }; rest = ap (drop 6) same ∙ ap first_of (sym eleven) }

-- a head is of the level of its board
pub head_low : (n : ℕ) (run : Run) → IsHead n run → sum run.board ≡ n
head_low n run head = head.at.stones

-- and begins before the level ends
pub head_below : (n : ℕ) (run : Run) → IsHead n run → run.start < size_of n
head_below n run head =
    let below = rank_of-below run.board head.at.board.pits in
    let rank = head.at.rank in
    omega (arith, below, rank, ap size_of head.at.stones)

-- the next run, or none
pub next_end : (n m : ℕ) (starts : List ℕ) (run : Run) (next : Option Run) → m ≡ n → IfSome next (λ r. IsHead m r × (r.start ≡ run.start + fillings starts run.stones)) → IfNone next (run.start + fillings starts run.stones ≡ size_of m)
    → end_of n next ≡ run.start + fillings starts run.stones
next_end n m starts run None same some none = sym (ap size_of same) ∙ sym none
next_end n m starts run (Some r) same some none = some.1

pub next_heads : (n m : ℕ) (starts : List ℕ) (run : Run) (next : Option Run) → m ≡ n → IfSome next (λ r. IsHead m r × (r.start ≡ run.start + fillings starts run.stones)) → IfSome next (IsHead n)
next_heads n m starts run None same some = tt
next_heads n m starts run (Some r) same some = subst (λ k. IsHead k r) same some.0

-- each run has a board
pub some_fillings : (n : ℕ) (starts : List ℕ) (boards : List (List ℕ)) (run : Run) → IsHead n run → AreAllTails (n + 1) starts boards → 0 < fillings starts run.stones
some_fillings n starts boards run head all =
    let few = few_rest n run.start run.stones run.board head.at head.rest in
    let some = (all.each run.stones (omega (arith, few))).some in
    omega (arith, some)

-- ---- the run of a rank

start_at : (runs : List Run) (end i : ℕ) → i < length runs → get_or (starts_to runs end) i 0 ≡ (get_or runs i no_run).start
start_at runs end i h =
    get_or_append_left (map (λ (r : Run). r.start) runs) (end ∷ []) 0 i (omega (arith, h, length-map runs (λ (r : Run). r.start))) ∙ get_or-map (λ (r : Run). r.start) runs i no_run 0 h

end_at : (runs : List Run) (end i : ℕ) → i ≡ length runs → get_or (starts_to runs end) i 0 ≡ end
end_at runs end i is =
    let place : i - length (map (λ (r : Run). r.start) runs) ≡ 0 = omega (arith, is, length-map runs (λ (r : Run). r.start)) in
    get_or-append_right (map (λ (r : Run). r.start) runs) (end ∷ []) (length (map (λ (r : Run). r.start) runs)) i 0 refl (omega (arith, is, length-map runs (λ (r : Run). r.start))) ∙ ap (λ m. get_or (end ∷ []) m 0) place

-- the first run begins at rank 0
pub first_start : (n : ℕ) (starts : List ℕ) (runs : List Run) → AreRuns n starts runs (size_of n) → (0 < length runs) × ((get_or runs 0 no_run).start ≡ 0)
first_start n starts runs are =
    elim (cases_lt 0 (length runs)) [
      | inl some ↦ (some, sym (start_at runs (size_of n) 0 some) ∙ are.first)
      | inr none' ↦ absurd (let e = end_at runs (size_of n) 0 (omega (arith, none')) in let zero_size : size_of n ≡ 0 = sym e ∙ are.first in let positive = size_of-positive n in omega (arith, zero_size, positive))
    ]

-- a rank that a run begins at or before, and the next one after, is one of its boards
pub run_found : (n : ℕ) (starts : List ℕ) (runs : List Run) (i rank : ℕ) → AreRuns n starts runs (size_of n) → i < length runs → (get_or runs i no_run).start ≤ rank
    → (i + 1 < length runs → rank < (get_or runs (i + 1) no_run).start) → rank < size_of n → rank - (get_or runs i no_run).start < fillings starts (get_or runs i no_run).stones
run_found n starts runs i rank are inside begun before few =
    let next = are.next i inside in
    elim (cases_lt (i + 1) (length runs)) [
      | inl more ↦ let at = start_at runs (size_of n) (i + 1) more in let less = before more in omega (arith, next, at, less, begun)
      | inr last ↦ let at = end_at runs (size_of n) (i + 1) (omega (arith, inside, last)) in omega (arith, next, at, few, begun)
    ]

-- what is read of it
pub record IsOf (n rank : ℕ) (starts : List ℕ) (run : Run) : Type 0 where
  pub head : IsHead n run
  pub begun : run.start ≤ rank
  pub inside : rank - run.start < fillings starts run.stones

pub run_read : (n : ℕ) (starts : List ℕ) (runs : List Run) (i rank : ℕ) (run : Run) → AreRuns n starts runs (size_of n) → i < length runs → (get_or runs i no_run).start ≤ rank
    → (i + 1 < length runs → rank < (get_or runs (i + 1) no_run).start) → rank < size_of n → run ≡ get_or runs i run → IsOf n rank starts run
run_read n starts runs i rank run are inside begun before few is =
    let same : get_or runs i no_run ≡ run = sym (is ∙ get_or_default runs i run no_run inside) in
    subst (IsOf n rank starts) same (record { head = are.head i inside; begun = begun; inside = run_found n starts runs i rank are inside begun before few })

-- its board of this rank, and where that lies
pub record IsFound (n rank : ℕ) (boards : List (List ℕ)) (place : ℕ) (board : List ℕ) : Type 0 where
  pub place_in : place < length boards
  pub at : IsBoardAt n rank board

pub board_found : (n rank : ℕ) (starts : List ℕ) (boards : List (List ℕ)) (run : Run) (start : ℕ) (d : List ℕ) → AreAllTails (n + 1) starts boards → IsOf n rank starts run → start ≡ get_or starts run.stones start
    → IsFound n rank boards (start + (rank - run.start)) (take 6 run.board ++ drop 6 (get_or boards (start + (rank - run.start)) d))
board_found n rank starts boards run start d all of is =
    let few = few_rest n run.start run.stones run.board of.head.at of.head.rest in
    let tails = all.each run.stones (omega (arith, few)) in
    let long = all.long in
    let here : start ≡ get_or starts run.stones 0 = is ∙ get_or_default starts run.stones start 0 (omega (arith, few, long)) in
    let inside = of.inside in
    let begun = of.begun in
    let within = tails.within in
    let some = tails.some in
    let rank_is : run.start + (rank - run.start) ≡ rank = omega (arith, begun) in
    record {
      place_in = omega (arith, here, inside, within, some);
      at = subst₂ (λ r s. IsBoardAt n r (take 6 run.board ++ drop 6 (get_or boards (s + (rank - run.start)) d))) rank_is (sym here)
          (run_board n run starts boards (rank - run.start) d of.head all inside);
    }

-- a run's boards from a rank on, at most those below rank `end`
pub stretch_found : (n rank end : ℕ) (starts : List ℕ) (boards tails : List (List ℕ)) (run : Run) → AreAllTails (n + 1) starts boards → IsOf n rank starts run → rank < end
    → length tails ≡ min (end - rank) (fillings starts run.stones - (rank - run.start))
    → ((j : ℕ) → j < length tails → board_in tails j ≡ board_in boards (get_or starts run.stones 0 + (rank - run.start) + j))
    → IsStretch n rank run.board tails
stretch_found n rank end starts boards tails run all of order count each =
    let begun = of.begun in
    let inside = of.inside in
    record {
      board = of.head.at.board;
      stones = of.head.at.stones;
      some = omega (arith, count, order, inside);
      each = λ k h.
          let at : run.start + (rank - run.start + k) ≡ rank + k = omega (arith, begun) in
          let place : get_or starts run.stones 0 + (rank - run.start + k) ≡ get_or starts run.stones 0 + (rank - run.start) + k = omega arith in
          subst₂ (λ (r : ℕ) (t : List ℕ). IsBoardAt n r (take 6 run.board ++ drop 6 t)) at (ap (board_in boards) place ∙ sym (each k h))
          (run_board n run starts boards (rank - run.start + k) [] of.head all (omega (arith, h, count, inside)));
    }

-- they end at rank `end`, or with their run
stretch_ended : (n rank end : ℕ) (starts : List ℕ) (boards tails : List (List ℕ)) (run : Run) → AreAllTails (n + 1) starts boards → IsOf n rank starts run → rank < end
    → length tails ≡ min (end - rank) (fillings starts run.stones - (rank - run.start))
    → ((j : ℕ) → j < length tails → board_in tails j ≡ board_in boards (get_or starts run.stones 0 + (rank - run.start) + j))
    → (rank + length tails ≡ end) ⊎ EndsRun tails
stretch_ended n rank end starts boards tails run all of order count each =
    let inside = of.inside in
    let tails_are = all.each run.stones (let few = few_rest n run.start run.stones run.board of.head.at of.head.rest in omega (arith, few)) in
    elim (cases_lt (length tails) (end - rank)) [
      | inl less ↦
          let last : get_or starts run.stones 0 + (rank - run.start) + (length tails - 1) ≡ get_or starts (run.stones + 1) 0 - 1 = omega (arith, less, count, inside) in
          inr (run.stones, each (length tails - 1) (omega (arith, less, count, inside)) ∙ ap (board_in boards) last ∙ tails_are.last)
      | inr all_of ↦ inl (omega (arith, all_of, count, order))
    ]

-- and all that is read for them
pub stretch_read : (n m rank end : ℕ) (starts : List ℕ) (boards tails : List (List ℕ)) (runs slice : List Run) (i : ℕ) (run : Run) → n ≡ m → slice ≡ runs → AreAllTails (n + 1) starts boards → AreRuns n starts runs (size_of n)
    → i < length slice → (get_or slice i no_run).start ≤ rank → (i + 1 < length slice → rank < (get_or slice (i + 1) no_run).start) → rank < end → end ≤ size_of m → run ≡ get_or runs i run
    → length tails ≡ min (end - rank) (fillings starts run.stones - (rank - run.start))
    → ((j : ℕ) → j < length tails → board_in tails j ≡ board_in boards (get_or starts run.stones 0 + (rank - run.start) + j))
    → IsStretch m rank run.board tails × ((rank + length tails ≡ end) ⊎ EndsRun tails)
stretch_read n m rank end starts boards tails runs slice i run level same all are inside begun before order within is count each =
    let of =
    run_read n starts runs i rank run are (subst (λ (rs : List Run). i < length rs) same inside) (subst (λ (rs : List Run). (get_or rs i no_run).start ≤ rank) same begun)
    (subst (λ (rs : List Run). i + 1 < length rs → rank < (get_or rs (i + 1) no_run).start) same before) (omega (arith, order, within, ap size_of level)) is in
    (subst (λ k. IsStretch k rank run.board tails) level (stretch_found n rank end starts boards tails run all of order count each), stretch_ended n rank end starts boards tails run all of order count each)

-- ---- windows

-- those of the first windows are there
pub record WindowsBelow (width : ℕ) (runs : List Run) (windows : List ℕ) (n : ℕ) : Type 0 where
  pub long : length windows ≡ n
  pub each : (w : ℕ) → w < n → (get_or windows w 0 < length runs) × ((get_or runs (get_or windows w 0) no_run).start ≤ w * width)

pub WindowsBelow-none : (width : ℕ) (runs : List Run) → WindowsBelow width runs [] 0
WindowsBelow-none width runs = record { long = refl; each = λ w h. absurd (omega arith) }

pub WindowsBelow-more : (width : ℕ) (runs : List Run) (windows : List ℕ) (n run : ℕ) → WindowsBelow width runs windows n → run < length runs → (get_or runs run no_run).start ≤ n * width → WindowsBelow width runs (windows ++ run ∷ []) (n + 1)
WindowsBelow-more width runs windows n run below inside begun = record {
  long = (let long = below.long in let more = length-append windows (run ∷ []) in omega (arith, long, more));
  each = λ w h. elim (cases_lt w n) [
    | inl less ↦ subst (λ k. (k < length runs) × ((get_or runs k no_run).start ≤ w * width)) (sym (get_or_append_left windows (run ∷ []) 0 w (let long = below.long in omega (arith, less, long)))) (below.each w less)
    | inr ge ↦
        let same : w ≡ n = omega (arith, h, ge) in
        let here : get_or (windows ++ run ∷ []) n 0 ≡ run =
        (let place : n - length windows ≡ 0 = (let long = below.long in omega (arith, long)) in
        get_or-append_right windows (run ∷ []) (length windows) n 0 refl (let long = below.long in omega (arith, long)) ∙ ap (λ m. get_or (run ∷ []) m 0) place) in
        subst (λ v. (get_or (windows ++ run ∷ []) v 0 < length runs) × ((get_or runs (get_or (windows ++ run ∷ []) v 0) no_run).start ≤ v * width)) (sym same)
        (subst (λ k. (k < length runs) × ((get_or runs k no_run).start ≤ n * width)) (sym here) (inside, begun))
  ];
}

-- as many as there are have all ranks
pub windows_all : (size : ℕ) (runs : List Run) (windows : List ℕ) (n : ℕ) → size ≤ n * 128 → WindowsBelow 128 runs windows n → AreWindows 128 size runs windows
windows_all size runs windows n most below w h =
    let less : w < n = omega (arith, h, most) in
    let at = below.each w less in
    let long = below.long in
    (omega (arith, less, long), at.0, at.1)

-- all that is read for a board
pub looked_up : (n m rank : ℕ) (starts : List ℕ) (boards : List (List ℕ)) (runs slice : List Run) (i : ℕ) (run : Run) (start : ℕ) (d : List ℕ) → n ≡ m → slice ≡ runs → AreAllTails (n + 1) starts boards → AreRuns n starts runs (size_of n)
    → i < length slice → (get_or slice i no_run).start ≤ rank → (i + 1 < length slice → rank < (get_or slice (i + 1) no_run).start) → rank < size_of m → run ≡ get_or runs i run → start ≡ get_or starts run.stones start
    → IsFound n rank boards (start + (rank - run.start)) (take 6 run.board ++ drop 6 (get_or boards (start + (rank - run.start)) d))
looked_up n m rank starts boards runs slice i run start d level same all are inside begun before few is at =
    board_found n rank starts boards run start d all
    (run_read n starts runs i rank run are (subst (λ (rs : List Run). i < length rs) same inside) (subst (λ (rs : List Run). (get_or rs i no_run).start ≤ rank) same begun)
    (subst (λ (rs : List Run). i + 1 < length rs → rank < (get_or rs (i + 1) no_run).start) same before) (omega (arith, few, ap size_of level)) is) at
