-- Which gain each board awaits: what no opening changes, what the bytes say while cells change, and how they are filled.
use Rattle.std.proofs.Common.{◌≡◌, ℕ, ◌≢◌, ◌+◌, ◌-◌, ◌<◌, ◌≤◌, ◌==◌, inl, inr, Option, Some, None, Bool, true, false, ℤ, pos, neg_ℤ, List, length, get_or, get_or-drop, drop, length-drop, length-take, set, refl, sym, ap, subst, ◌∙◌, arith, eqb-true, get_or-set_same, get_or-set_other}
use Rattle.std.proofs.lemmas.Bool.{cases_eq}
use Rattle.std.proofs.lemmas.Bool.Decides.{Decides-int_eq}
use Rattle.std.proofs.lemmas.List.{length-set}
use Rattle.std.specs.Ordering.{int_eq}
use Rattle.std.specs.Option.{unwrap_or}
use Rattle.std.specs.Prelude.{IfNone, IfSome}
use Rattle.std.specs.List.{All, slice_range}
use lib.Seq.{get_or-take}
use Rattle.awari_block.specs.declared.cells.Cell.{Cell}
use Rattle.awari_block.specs.declared.cells.Mark.{Mark}
use Rattle.awari_block.specs.declared.cells.Mark.TheVariants as mark
use Rattle.awari_block.specs.declared.stakes.Stake.{Stake}
use Rattle.awari_block.specs.Awaited.{NoneAwait, TellAwaited}
use Rattle.awari_block.specs.Blocks.{Due, no_cell}
use Rattle.awari_block.specs.Boards.{OpensCells}
use Rattle.awari_block.specs.Part.{Part, part_of}
use Rattle.awari_block.proofs.Opening.{opens_still}
use Rattle.awari_block.specs.Cells.{AwaitsNoMore, AwaitsNone, MayOpen, status_by, view_of}
use Rattle.awari_block.specs.Tally as tally
use Rattle.awari_block.specs.Steps.{after_opening, cell_after_opening}

-- what awaits no gain stays as it is
still_by : (m : Mark) (score : ℤ) (left plans dist n t : ℕ) → (MayOpen m score n t → ⊥) → after_opening left (status_by m score plans dist) n t ≡ status_by m score plans dist
still_by mark.Settled score left plans dist n t idle = refl
still_by mark.Ended score left plans dist n t idle = by (t == n) refl
  where
    by : (b : Bool) → (t == n) ≡ b → after_opening left (status_by mark.Ended score plans dist) n t ≡ status_by mark.Ended score plans dist
    by true e = absurd (idle (eqb-true t n e))
    by false e = rw e refl
still_by mark.Quiet score left plans dist n t idle = by (left == 0) refl
  where
    by : (b : Bool) → (left == 0) ≡ b → after_opening left (status_by mark.Quiet score plans dist) n t ≡ status_by mark.Quiet score plans dist
    by true e = rw e refl
    by false e = rw e refl
still_by mark.Noted score left plans dist n t idle = by (left == 0) refl
  where
    by : (b : Bool) → (left == 0) ≡ b → after_opening left (status_by mark.Noted score plans dist) n t ≡ status_by mark.Noted score plans dist
    by true e = rw e refl
    by false e = rw e refl
still_by mark.Capturing score left plans dist n t idle = by (int_eq score (pos t)) refl (int_eq score (neg_ℤ (pos t))) refl (left == 0) refl
  where
    by : (a : Bool) → int_eq score (pos t) ≡ a → (b : Bool) → int_eq score (neg_ℤ (pos t)) ≡ b → (c : Bool) → (left == 0) ≡ c
        → after_opening left (status_by mark.Capturing score plans dist) n t ≡ status_by mark.Capturing score plans dist
    by true e b f c g = absurd (idle (inl ((Decides-int_eq score (pos t)).0 e)))
    by false e true f c g = absurd (idle (inr ((Decides-int_eq score (neg_ℤ (pos t))).0 f)))
    by false e false f true g = rw (e, f, g) refl
    by false e false f false g = rw (e, f, g) refl

pub still : (c : Cell) (n t : ℕ) → (MayOpen c.mark c.score n t → ⊥) → cell_after_opening (view_of c) n t ≡ view_of c
still c n t idle = ap (λ (s : tally.Status). record { left = c.left; status = s }) (still_by c.mark c.score c.left c.plans c.dist n t idle)

-- a cell that awaits no more than before may be put
pub awaited_put : (n i : ℕ) (cells : List Cell) (gains : List ℕ) (c : Cell) → i < length cells → AwaitsNoMore (get_or cells i no_cell) c → TellAwaited n cells gains → TellAwaited n (set cells i c) gains
awaited_put n i cells gains c inside no_more tell = record {
  boards = tell.boards ∙ sym (length-set cells i c);
  only = λ k t below may. elim (cases_eq k i) [
    | inl same ↦ tell.only k t (subst (λ l. k < l) (length-set cells i c) below)
        (subst (λ j. MayOpen (get_or cells j no_cell).mark (get_or cells j no_cell).score n t) (sym same)
        (no_more n t (subst (λ (d : Cell). MayOpen d.mark d.score n t) (ap (λ j. get_or (set cells i c) j no_cell) same ∙ get_or-set_same cells i c no_cell inside) may)))
    | inr other ↦ tell.only k t (subst (λ l. k < l) (length-set cells i c) below) (subst (λ (d : Cell). MayOpen d.mark d.score n t) (get_or-set_other cells i k c no_cell other) may)
  ];
}

-- boards that do not await the gain of the stake stay as they are
module _ (stake : Stake) (start : ℕ) (cells : List Cell) (fresh : List Due) (awaits : List ℕ) (tell : TellAwaited stake.level cells awaits) (part : Part) (view : part_of stake start cells fresh ≡ part) (from : ℕ) where
  opens_none : (to : ℕ) → NoneAwait stake.gain awaits from to → OpensCells part part from to
  opens_none to none =
      subst (λ (p : Part). OpensCells p p from to) view
      (opens_still (part_of stake start cells fresh) (part_of stake start cells fresh) from to
      (λ k inside low high. still (get_or cells k no_cell) stake.level stake.gain (λ may. none k (let many = tell.boards in omega (arith, many, inside)) low high (tell.only k stake.gain inside may))))

  same : length awaits ≡ length part.cells
  same = tell.boards ∙ ap (λ (p : Part). length p.cells) view

  pub awaiting_some : (o : Option ℕ) → IfSome o (λ i. (from ≤ i) × (i < length awaits) × NoneAwait stake.gain awaits from i) → IfSome o (λ i. (from ≤ i) × (i < length part.cells) × OpensCells part part from i)
  awaiting_some None found = tt
  awaiting_some (Some i) (later, inside, none) = (later, (let many = same in omega (arith, many, inside)), opens_none i none)

  pub awaiting_none : (o : Option ℕ) → IfNone o (NoneAwait stake.gain awaits from (length awaits)) → IfNone o (OpensCells part part from (length part.cells))
  awaiting_none None none = subst (λ n. OpensCells part part from n) same (opens_none (length awaits) none)
  awaiting_none (Some i) found = tt

-- no board of these awaits the gain
pub none_among : (t low high : ℕ) (awaits : List ℕ) → All (λ g. g ≢ t) (slice_range awaits low high) → NoneAwait t awaits low high
none_among t low high awaits others k inside from to =
    let long = length-take (high - low) (drop low awaits) in
    let left = length-drop low awaits in
    let at : low + (k - low) ≡ k = omega (arith, from) in
    let read = get_or-take (high - low) (drop low awaits) (k - low) 0 (omega (arith, from, to)) ∙ get_or-drop low awaits (k - low) 0 ∙ ap (λ i. get_or awaits i 0) at in
    λ is. others (k - low) 0 (omega (arith, long, left, inside, from, to)) (read ∙ is)

-- ---- the bytes are filled

-- the first of them are, those of boards that await none by d
pub record AreFilled (n d : ℕ) (cells : List Cell) (gains : List ℕ) (to : ℕ) : Type 0 where
  pub boards : length gains ≡ length cells
  pub only : (k t : ℕ) → k < to → MayOpen (get_or cells k no_cell).mark (get_or cells k no_cell).score n t → get_or gains k 0 ≡ t
  pub none : (k : ℕ) → k < to → AwaitsNone (get_or cells k no_cell) n → get_or gains k 0 ≡ d

pub filled_none : (n d : ℕ) (cells : List Cell) (gains : List ℕ) → length gains ≡ length cells → AreFilled n d cells gains 0
filled_none n d cells gains boards = record { boards = boards; only = λ k t below may. absurd (omega (arith, below)); none = λ k below idle. absurd (omega (arith, below)) }

-- what is noted of a board that awaits none
noted_none : (n g d : ℕ) (c : Cell) (o : Option ℕ) → IfSome o (MayOpen c.mark c.score n) → g ≡ unwrap_or o d → AwaitsNone c n → g ≡ d
noted_none n g d c None found is idle = is
noted_none n g d c (Some t) found is idle = absurd (idle t found)

pub filled_more : (n i g d : ℕ) (cells : List Cell) (gains : List ℕ) (o : Option ℕ) (cell : Cell) → i < length cells → get_or cells i no_cell ≡ cell → IfSome o (MayOpen cell.mark cell.score n)
    → ((t : ℕ) → MayOpen cell.mark cell.score n t → o ≡ Some t) → g ≡ unwrap_or o d
    → AreFilled n d cells gains i → AreFilled n d cells (set gains i g) (i + 1)
filled_more n i g d cells gains o cell inside read found only is before = record {
  boards = length-set gains i g ∙ before.boards;
  only = λ k t below may. elim (cases_eq k i) [
    | inl same ↦ here k same ∙ is ∙ ap (λ (p : Option ℕ). unwrap_or p d) (only t (subst (λ (c : Cell). MayOpen c.mark c.score n t) (ap (λ j. get_or cells j no_cell) same ∙ read) may))
    | inr other ↦ get_or-set_other gains i k g 0 other ∙ before.only k t (omega (arith, below, other)) may
  ];
  none = λ k below idle. elim (cases_eq k i) [
    | inl same ↦ here k same ∙ noted_none n g d cell o found is (subst (λ (c : Cell). AwaitsNone c n) (ap (λ j. get_or cells j no_cell) same ∙ read) idle)
    | inr other ↦ get_or-set_other gains i k g 0 other ∙ before.none k (omega (arith, below, other)) idle
  ];
}
  where
    here : (k : ℕ) → k ≡ i → get_or (set gains i g) k 0 ≡ g
    here k same = ap (λ j. get_or (set gains i g) j 0) same ∙ get_or-set_same gains i g 0 (let boards = before.boards in omega (arith, boards, inside))

pub filled_all : (n d to : ℕ) (cells : List Cell) (gains : List ℕ) → length cells ≤ to → AreFilled n d cells gains to → TellAwaited n cells gains
filled_all n d to cells gains end filled = record { boards = filled.boards; only = λ k t below. filled.only k t (omega (arith, below, end)) }
