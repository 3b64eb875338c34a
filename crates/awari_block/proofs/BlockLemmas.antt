-- What putting a cell into a block keeps.
use Rattle.std.proofs.Common.{◌≡◌, ◌≢◌, ℕ, ◌+◌, ◌-◌, ◌<◌, ◌≤◌, ◌==◌, inl, inr, Bool, true, false, not, ◌&&◌, if◌then◌else◌, nat_le, List, [], ◌∷◌, length, get_or, set, All, cond, refl, sym, ap, subst, subst₂, ◌∙◌, arith, get_or-set_same, get_or-set_other, length-set}
use Rattle.std.proofs.lemmas.Bool.Decides.{nat_tests}
use Rattle.std.proofs.lemmas.Bool.{cases_eq, cases_lt, false≢true}
use Rattle.awari_block.specs.declared.cells.Mark.{Mark}
use Rattle.awari_block.specs.declared.cells.Mark.TheVariants as mark
use Rattle.std.proofs.lemmas.List.Sums.{sum_by-cons, sum_by-set}
use Rattle.std.proofs.lemmas.List.Sorted.{sum_by-IsPermutation, All-permutation, IsPermutation-sym}
use Rattle.std.proofs.lemmas.List.Elements.{All-set, All-cons, All-tail, recursion_from_All, All-from_recursion}
use Rattle.std.specs.List.{AllByRecursion}
use Rattle.std.proofs.Math.ListN.{get_or-eq_default}
use Rattle.std.specs.List.Sorted.{IsPermutation}
use Rattle.awari_block.specs.declared.cells.Cell.{Cell}
use Rattle.awari_block.specs.Cells.{is_settled, Fits, IsEither, IsAtStake, Keeps}
use Rattle.awari_block.specs.declared.stakes.Stake.{Stake}
use Rattle.awari_block.specs.Boards.{Joins, JoinsIf}
use Rattle.awari_block.specs.FreshSets.{KeepFresh}
use Rattle.awari_block.specs.Blocks.{Due, due_rank, no_cell, cell_in, is_settled_in, times_due, unsettled, IsDueAs, IsBlock, JoinNewlySettled}

abbrev pub one_if : Bool → ℕ
one_if b = cond b 1 0

-- the cell at another rank stays, and the one at the rank is the new one
pub cell_in-same : (start : ℕ) (cells : List Cell) (rank : ℕ) (c : Cell) → rank - start < length cells → cell_in start (set cells (rank - start) c) rank ≡ c
cell_in-same start cells rank c h = rw get_or-set_same refl

pub cell_in-other : (start : ℕ) (cells : List Cell) (rank other : ℕ) (c : Cell) → start ≤ rank → start ≤ other → other ≢ rank
    → cell_in start (set cells (rank - start) c) other ≡ cell_in start cells other
cell_in-other start cells rank other c low low' apart = let ne : other - start ≢ rank - start = omega arith in rw get_or-set_other refl

le_of : (a b : ℕ) → nat_le a b ≡ true → a ≤ b
le_of a b e = grind (arith, nat_tests)

-- of a rank that is not below the first
settled_from : (start rank : ℕ) (b : Bool) → start ≤ rank → (nat_le start rank && b) ≡ b
settled_from start rank b low = and_true (nat_le start rank) b (le_true start rank low)
  where
    le_true : (a b : ℕ) → a ≤ b → nat_le a b ≡ true
    le_true a b h = grind (arith, nat_tests)

    and_true : (a b : Bool) → a ≡ true → (a && b) ≡ b
    and_true a b e = grind arith

-- what is settled elsewhere stays
pub is_settled_in-other : (start : ℕ) (cells : List Cell) (rank other : ℕ) (c : Cell) → start ≤ rank → other ≢ rank
    → is_settled_in start (set cells (rank - start) c) other ≡ is_settled_in start cells other
is_settled_in-other start cells rank other c low apart = by (nat_le start other) refl
  where
    by : (b : Bool) → nat_le start other ≡ b
        → (nat_le start other && is_settled (cell_in start (set cells (rank - start) c) other).mark) ≡ (nat_le start other && is_settled (cell_in start cells other).mark)
    by true e = ap (λ (d : Cell). nat_le start other && is_settled d.mark) (cell_in-other start cells rank other c low (le_of start other e) apart)
    by false e = rw e refl

pub is_settled_in-same : (start : ℕ) (cells : List Cell) (rank : ℕ) (c : Cell) → start ≤ rank → rank - start < length cells
    → is_settled_in start (set cells (rank - start) c) rank ≡ is_settled c.mark
is_settled_in-same start cells rank c low high = settled_from start rank _ low ∙ ap (λ (d : Cell). is_settled d.mark) (cell_in-same start cells rank c high)

pub is_settled_in-here : (start : ℕ) (cells : List Cell) (rank : ℕ) → start ≤ rank → is_settled_in start cells rank ≡ is_settled (cell_in start cells rank).mark
is_settled_in-here start cells rank low = settled_from start rank _ low

-- the number of times that a rank is due, with one more
pub times_due-cons : (f : Due) (fresh : List Due) (r : ℕ) → times_due (f ∷ fresh) r ≡ (if due_rank f == r then 1 else 0) + times_due fresh r
times_due-cons f fresh r = sum_by-cons (λ (g : Due). cond (due_rank g == r) 1 0) f fresh

pub times_due-permuted : (fresh after : List Due) (r : ℕ) → IsPermutation fresh after → times_due after r ≡ times_due fresh r
times_due-permuted fresh after r h = sum_by-IsPermutation (λ (g : Due). cond (due_rank g == r) 1 0) fresh after h

pub eqb_self : (x : ℕ) → (x == x) ≡ true
eqb_self x = grind (arith, nat_tests)

pub eqb_apart : (x y : ℕ) → x ≢ y → (x == y) ≡ false
eqb_apart x y apart = grind (arith, nat_tests)

-- a fresh board is settled
pub due_settled : (P : ℕ → Bool) (fresh : List Due) → ((r : ℕ) → times_due fresh r ≤ (if P r then 1 else 0)) → AllByRecursion (λ f. P (due_rank f) ≡ true) fresh
due_settled P [] h = tt
due_settled P (f ∷ fresh) h = (
  first (P (due_rank f)) (subst (λ b. (if b then 1 else 0) + times_due fresh (due_rank f) ≤ (if P (due_rank f) then 1 else 0)) (eqb_self (due_rank f)) (subst (λ n. n ≤ (if P (due_rank f) then 1 else 0)) (times_due-cons f fresh (due_rank f)) (h (due_rank f)))),
  due_settled P fresh (λ r. less r),
)
  where
    first : (b : Bool) → 1 + times_due fresh (due_rank f) ≤ (if b then 1 else 0) → b ≡ true
    first true k = refl
    first false k = absurd (omega arith)

    less : (r : ℕ) → times_due fresh r ≤ (if P r then 1 else 0)
    less r = let more = h r in omega (arith, more, times_due-cons f fresh r)

pub all_both : {X : Type 0} (P Q R : X → Type 0) (xs : List X) → ((x : X) → P x → Q x → R x) → AllByRecursion P xs → AllByRecursion Q xs → AllByRecursion R xs
all_both P Q R [] f a b = tt
all_both P Q R (x ∷ xs) f a b = (f x a.0 b.0, all_both P Q R xs f a.1 b.1)

-- what is settled is in the block
pub settled_inside : (start : ℕ) (cells : List Cell) (r : ℕ) → is_settled_in start cells r ≡ true
    → (start ≤ r) × (r - start < length cells) × (is_settled (cell_in start cells r).mark ≡ true)
settled_inside start cells r e = let (low, settled) = parts start r (is_settled (cell_in start cells r).mark) e in (low, below (r - start) settled, settled)
  where
    parts : (a b : ℕ) (d : Bool) → (nat_le a b && d) ≡ true → (a ≤ b) × (d ≡ true)
    parts a b d e = grind (arith, nat_tests)

    below : (k : ℕ) → is_settled (get_or cells k no_cell).mark ≡ true → k < length cells
    below k e = elim (cases_lt k (length cells)) [
      | inl h ↦ h
      | inr h ↦ absurd (false≢true (subst (λ (d : Cell). is_settled d.mark ≡ true) (get_or-eq_default cells no_cell h) e))
    ]

-- the cell of a fresh board may change while it is kept
kept_due : (stake : Stake) (f : Due) (a b : Cell) → b.score ≡ a.score → b.dist ≡ a.dist → IsDueAs stake f a → IsDueAs stake f b
kept_due stake f a b score dist due = record {
  near = dist ∙ due.near;
  timely = let t = due.timely in omega (arith, dist);
  valued = subst (IsEither stake.gain) (sym score) due.valued;
}

module _ (stake : Stake) (start : ℕ) (cells : List Cell) (fresh : List Due) (rank : ℕ) (c : Cell) (low : start ≤ rank) (high : rank - start < length cells)
    (sound : IsBlock stake start cells fresh) where
  -- the cells of the fresh boards stay
  due_still : Keeps (cell_in start cells rank) c → All (λ (f : Due). IsDueAs stake f (cell_in start (set cells (rank - start) c) (due_rank f))) fresh
  due_still keeps =
      All-from_recursion _ fresh (all_both (λ (f : Due). is_settled_in start cells (due_rank f) ≡ true) (λ (f : Due). IsDueAs stake f (cell_in start cells (due_rank f))) _ fresh one
      (due_settled (is_settled_in start cells) fresh sound.settled) (recursion_from_All _ fresh sound.due))
    where
      one : (f : Due) → is_settled_in start cells (due_rank f) ≡ true → IsDueAs stake f (cell_in start cells (due_rank f))
          → IsDueAs stake f (cell_in start (set cells (rank - start) c) (due_rank f))
      one f settled due =
          let inside = settled_inside start cells (due_rank f) settled in
          elim (cases_eq (due_rank f) rank) [
            | inl same ↦
                let was : is_settled (cell_in start cells rank).mark ≡ true = subst (λ r. is_settled (cell_in start cells r).mark ≡ true) same inside.2 in
                let kept = keeps was in
                subst (λ r. IsDueAs stake f (cell_in start (set cells (rank - start) c) r)) (sym same)
                (subst (IsDueAs stake f) (sym (cell_in-same start cells rank c high))
                (kept_due stake f (cell_in start cells rank) c kept.1 kept.2 (subst (λ r. IsDueAs stake f (cell_in start cells r)) same due)))
            | inr other ↦ subst (IsDueAs stake f) (sym (cell_in-other start cells rank (due_rank f) c low inside.0 other)) due
          ]

  -- a cell that is not newly settled
  pub put_kept : Fits stake c → Keeps (cell_in start cells rank) c → is_settled c.mark ≡ is_settled (cell_in start cells rank).mark
      → IsBlock stake start (set cells (rank - start) c) fresh
  put_kept fits keeps same = record {
    fit = All-set (Fits stake) cells (rank - start) c fits sound.fit;
    settled = λ r. elim (cases_eq r rank) [
      | inl here ↦
          subst (λ z. times_due fresh z ≤ (if is_settled_in start (set cells (rank - start) c) z then 1 else 0)) (sym here)
          (subst (λ z. times_due fresh rank ≤ (if z then 1 else 0)) (is_settled_in-here start cells rank low ∙ sym same ∙ sym (is_settled_in-same start cells rank c low high)) (sound.settled rank))
      | inr other ↦ subst (λ z. times_due fresh r ≤ (if z then 1 else 0)) (sym (is_settled_in-other start cells rank r c low other)) (sound.settled r)
    ];
    due = due_still keeps;
  }

  -- a newly settled cell, whose board joins the fresh
  pub put_joined : (after : List Due) → Fits stake c → IsAtStake stake c → Keeps (cell_in start cells rank) c → is_settled c.mark ≡ true → is_settled (cell_in start cells rank).mark ≡ false
      → IsPermutation ((c.dist, rank) ∷ fresh) after → IsBlock stake start (set cells (rank - start) c) after
  put_joined after fits timely keeps new old moved = record {
    fit = All-set (Fits stake) cells (rank - start) c fits sound.fit;
    settled = λ r. elim (cases_eq r rank) [
      | inl here ↦
          let none = subst (λ z. times_due fresh rank ≤ (if z then 1 else 0)) (is_settled_in-here start cells rank low ∙ old) (sound.settled rank) in
          let count = times_due-permuted ((c.dist, rank) ∷ fresh) after rank moved ∙ times_due-cons (c.dist, rank) fresh rank in
          let one : one_if (rank == rank) ≡ 1 = ap one_if (eqb_self rank) in
          subst (λ z. times_due after z ≤ (if is_settled_in start (set cells (rank - start) c) z then 1 else 0)) (sym here)
          (subst (λ z. times_due after rank ≤ (if z then 1 else 0)) (sym (is_settled_in-same start cells rank c low high ∙ new)) (omega (arith, none, count, one)))
      | inr other ↦
          let count = times_due-permuted ((c.dist, rank) ∷ fresh) after r moved ∙ times_due-cons (c.dist, rank) fresh r in
          let none : one_if (rank == r) ≡ 0 = ap one_if (eqb_apart rank r (λ e. other (sym e))) in
          subst (λ z. times_due after r ≤ (if z then 1 else 0)) (sym (is_settled_in-other start cells rank r c low other)) (omega (arith, count, none, sound.settled r))
    ];
    due = All-permutation (λ (g : Due). IsDueAs stake g (cell_in start (set cells (rank - start) c) (due_rank g))) ((c.dist, rank) ∷ fresh) after moved
        (All-cons (λ (g : Due). IsDueAs stake g (cell_in start (set cells (rank - start) c) (due_rank g))) (c.dist, rank) fresh
        (subst (IsDueAs stake (c.dist, rank)) (sym (cell_in-same start cells rank c high)) (record { near = refl; timely = timely.1; valued = timely.0 }))
        (due_still keeps));
  }

  -- the fresh boards gain the newly settled board
  pub put_joins : (after : List Due) → Keeps (cell_in start cells rank) c → Joins (cell_in start cells rank) c rank fresh after
      → JoinNewlySettled start cells fresh (set cells (rank - start) c) after
  put_joins after keeps joins r = by (is_settled c.mark) (is_settled (cell_in start cells rank).mark) refl refl joins
    where
      here : is_settled_in start (set cells (rank - start) c) rank ≡ is_settled c.mark
      here = is_settled_in-same start cells rank c low high

      there : r ≢ rank → is_settled_in start (set cells (rank - start) c) r ≡ is_settled_in start cells r
      there other = is_settled_in-other start cells rank r c low other

      same_marks : (after ≡ fresh) → is_settled c.mark ≡ is_settled (cell_in start cells rank).mark
          → times_due after r + one_if (is_settled_in start cells r) ≡ times_due fresh r + one_if (is_settled_in start (set cells (rank - start) c) r)
      same_marks e marks = let count = ap (λ (l : List Due). times_due l r) e in omega (arith, count, settled)
        where
          settled : one_if (is_settled_in start cells r) ≡ one_if (is_settled_in start (set cells (rank - start) c) r)
          settled = elim (cases_eq r rank) [
            | inl same ↦
                subst (λ z. one_if (is_settled_in start cells z) ≡ one_if (is_settled_in start (set cells (rank - start) c) z)) (sym same)
                (ap one_if (is_settled_in-here start cells rank low ∙ sym marks ∙ sym here))
            | inr other ↦ ap one_if (sym (there other))
          ]

      by : (a b : Bool) → is_settled c.mark ≡ a → is_settled (cell_in start cells rank).mark ≡ b → JoinsIf (is_settled c.mark && not (is_settled (cell_in start cells rank).mark)) c rank fresh after
          → times_due after r + one_if (is_settled_in start cells r) ≡ times_due fresh r + one_if (is_settled_in start (set cells (rank - start) c) r)
      by true true ea eb j = same_marks (subst₂ (λ x y. JoinsIf (x && not y) c rank fresh after) ea eb j) (ea ∙ sym eb)
      by false true ea eb j = absurd (false≢true (sym ea ∙ subst is_settled_by (sym (keeps eb).0) eb))
        where
          is_settled_by : Mark → Type 0
          is_settled_by m = is_settled m ≡ true
      by false false ea eb j = same_marks (subst₂ (λ x y. JoinsIf (x && not y) c rank fresh after) ea eb j) (ea ∙ sym eb)
      by true false ea eb j =
          let joined = subst₂ (λ x y. JoinsIf (x && not y) c rank fresh after) ea eb j in
          at (times_due-permuted ((c.dist, rank) ∷ fresh) after r joined ∙ times_due-cons (c.dist, rank) fresh r)
        where
          at : times_due after r ≡ one_if (rank == r) + times_due fresh r
              → times_due after r + one_if (is_settled_in start cells r) ≡ times_due fresh r + one_if (is_settled_in start (set cells (rank - start) c) r)
          at count = elim (cases_eq r rank) [
            | inl same ↦
                let one : one_if (rank == r) ≡ 1 = subst (λ y. one_if (rank == y) ≡ 1) (sym same) (ap one_if (eqb_self rank)) in
                let was : one_if (is_settled_in start cells r) ≡ 0 = subst (λ z. one_if (is_settled_in start cells z) ≡ 0) (sym same) (ap one_if (is_settled_in-here start cells rank low ∙ eb)) in
                let is : one_if (is_settled_in start (set cells (rank - start) c) r) ≡ 1 = subst (λ z. one_if (is_settled_in start (set cells (rank - start) c) z) ≡ 1) (sym same) (ap one_if (here ∙ ea)) in
                omega (arith, one, was, is, count)
            | inr other ↦
                let none : one_if (rank == r) ≡ 0 = ap one_if (eqb_apart rank r (λ same. other (sym same))) in
                let same = ap one_if (there other) in
                omega (arith, none, same, count)
          ]

-- each board that is newly settled is one more fresh board and one less that is not settled
pub put_unspread : (start : ℕ) (cells : List Cell) (fresh after : List Due) (rank : ℕ) (c : Cell) → rank - start < length cells
    → length after + one_if (not (is_settled c.mark)) ≡ length fresh + one_if (not (is_settled (cell_in start cells rank).mark))
    → length after + unsettled (set cells (rank - start) c) ≡ length fresh + unsettled cells
put_unspread start cells fresh after rank c high step =
    let sums = sum_by-set (λ (d : Cell). cond (not (is_settled d.mark)) 1 0) cells (rank - start) c no_cell high in omega (arith, sums, step)

-- where a cell is not settled some cell is not
pub some_unsettled : (cells : List Cell) (k : ℕ) → k < length cells → is_settled (get_or cells k no_cell).mark ≡ false → 0 < unsettled cells
some_unsettled cells k inside unset =
    let sums = sum_by-set (λ (d : Cell). cond (not (is_settled d.mark)) 1 0) cells k (record no_cell { mark = mark.Settled }) no_cell inside in
    let one : one_if (not (is_settled (get_or cells k no_cell).mark)) ≡ 1 = ap (λ b. one_if (not b)) unset in
    omega (arith, sums, one)

-- ---- the first of the fresh boards

-- it is a settled board of the block, with its distance
pub first_due : (stake : Stake) (start : ℕ) (cells : List Cell) (fresh rest : List Due) (f : Due) → IsBlock stake start cells fresh → IsPermutation (f ∷ rest) fresh
    → (start ≤ due_rank f) × (due_rank f - start < length cells) × IsDueAs stake f (cell_in start cells (due_rank f)) × (0 < times_due fresh (due_rank f))
    × (is_settled (cell_in start cells (due_rank f)).mark ≡ true)
first_due stake start cells fresh rest f sound moved =
    let inside = settled_inside start cells (due_rank f) (settled (is_settled_in start cells (due_rank f)) (sound.settled (due_rank f))) in (
      inside.0,
      inside.1,
      (All-permutation (λ (g : Due). IsDueAs stake g (cell_in start cells (due_rank g))) fresh (f ∷ rest) (IsPermutation-sym (f ∷ rest) fresh moved) sound.due) 0 f (omega arith),
      often,
      inside.2,
    )
  where
    often : 0 < times_due fresh (due_rank f)
    often =
        let count = times_due-permuted (f ∷ rest) fresh (due_rank f) moved in
        let cons = times_due-cons f rest (due_rank f) in
        let one : one_if (due_rank f == due_rank f) ≡ 1 = ap one_if (eqb_self (due_rank f)) in
        omega (arith, count, cons, one)

    settled : (b : Bool) → times_due fresh (due_rank f) ≤ (if b then 1 else 0) → b ≡ true
    settled true most = refl
    settled false most = absurd (omega (arith, most, often))

-- the others, once it is taken
pub popped : (stake : Stake) (start : ℕ) (cells : List Cell) (fresh rest : List Due) (f : Due) → IsBlock stake start cells fresh → IsPermutation (f ∷ rest) fresh → IsBlock stake start cells rest
popped stake start cells fresh rest f sound moved = record {
  fit = sound.fit;
  settled = λ r. let count = times_due-permuted (f ∷ rest) fresh r moved in let cons = times_due-cons f rest r in omega (arith, sound.settled r, count, cons);
  due = All-tail (λ (g : Due). IsDueAs stake g (cell_in start cells (due_rank g))) f rest
      (All-permutation (λ (g : Due). IsDueAs stake g (cell_in start cells (due_rank g))) fresh (f ∷ rest) (IsPermutation-sym (f ∷ rest) fresh moved) sound.due);
}

-- what is settled stays so, over two steps
pub keeps_both : (a b c : Cell) → Keeps a b → Keeps b c → Keeps a c
keeps_both a b c first second settled =
    let one = first settled in
    let two = second (subst (λ (m : Mark). is_settled m ≡ true) (sym one.0) settled) in
    (two.0 ∙ one.0, two.1 ∙ one.1, two.2 ∙ one.2)

pub keeps_same : (a b : Cell) → b ≡ a → Keeps a b
keeps_same a b e settled = (ap (λ (d : Cell). d.mark) e, ap (λ (d : Cell). d.score) e, ap (λ (d : Cell). d.dist) e)

-- a cell that is put keeps what is settled
pub put_stays : (start : ℕ) (cells : List Cell) (rank : ℕ) (c : Cell) → start ≤ rank → rank - start < length cells → Keeps (cell_in start cells rank) c
    → (r : ℕ) → start ≤ r → Keeps (cell_in start cells r) (cell_in start (set cells (rank - start) c) r)
put_stays start cells rank c low high keeps r low' = elim (cases_eq r rank) [
  | inl same ↦
      subst (λ z. Keeps (cell_in start cells z) (cell_in start (set cells (rank - start) c) z)) (sym same)
      (subst (λ (d : Cell). Keeps (cell_in start cells rank) d) (sym (cell_in-same start cells rank c high)) keeps)
  | inr other ↦ keeps_same (cell_in start cells r) (cell_in start (set cells (rank - start) c) r) (cell_in-other start cells rank r c low low' other)
]

-- and the scores of the fresh boards
pub put_keeps : (stake : Stake) (start : ℕ) (cells : List Cell) (fresh : List Due) (rank : ℕ) (c : Cell) → start ≤ rank → rank - start < length cells → IsBlock stake start cells fresh
    → Keeps (cell_in start cells rank) c → KeepFresh start cells (set cells (rank - start) c) fresh
put_keeps stake start cells fresh rank c low high sound keeps = record {
  size = length-set cells (rank - start) c;
  same = λ k d h.
      let inside = settled_inside start cells (due_rank (get_or fresh k d)) (All-from_recursion _ fresh (due_settled (is_settled_in start cells) fresh sound.settled) k d h) in
      (put_stays start cells rank c low high keeps (due_rank (get_or fresh k d)) inside.0 inside.2).1;
}
