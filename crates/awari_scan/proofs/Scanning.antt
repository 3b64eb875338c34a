-- A board of which no note was heard is open before any gain is.
use Rattle.std.proofs.Common.{◌≡◌, ℕ, zero, suc, ◌+◌, ◌<◌, ◌≤◌, ◌==◌, ◌⊎◌, inl, inr, Bool, true, false, not, ◌&&◌, All, List, [], ◌-◌, length, get_or, set, subst₂, sum, take, count_by, ℤ, Option, Some, None, pos, neg_ℤ, ◌-ℤ◌, ◌<ℤ◌, ◌≤ℤ◌, refl, sym, ap, subst, ◌∙◌, arith, eqb-true}
use Rattle.std.proofs.lemmas.Bool.{cases_eq, false≢true}
use Rattle.std.proofs.lemmas.Bool.Decides.{nat_tests}
use Rattle.std.proofs.lemmas.Int.{ints}
use Rattle.std.proofs.lemmas.List.{get_or_default}
use Rattle.awari_board.specs.Rules.{IsBoard, IsEnded, IsLegal, IsMove, captured, next_board}
use Rattle.awari_board.specs.Tests.{is_legal}
use Rattle.awari_board.proofs.Legal.{legal_is, below_six}
use Rattle.awari_block.specs.Pits.{pits}
use Rattle.awari_block.specs.Plain as plain
use Rattle.awari_block.specs.Plain.{is_left, left_of, Captures, IsBest, Knows, IsPlain}
use Rattle.awari_block.specs.Tally.{IsStatus, IsTally}
use Rattle.awari_block.specs.Cells.{IsWithin, Fits, FitsBy, view_of, status_of, status_by, is_settled}
use Rattle.awari_block.specs.declared.cells.Cell.{Cell}
use Rattle.awari_block.specs.declared.cells.Mark.{Mark}
use Rattle.awari_block.specs.declared.cells.Mark.TheVariants.{Ended, Quiet, Capturing, Noted, Settled}
use Rattle.awari_block.specs.declared.stakes.Stake.{Stake}
use Rattle.awari_scan.specs.Scan.{IsRanged, IsBestBelow, IsCounted, IsScannedCell, IsScannedPart, AreScanned}
use Rattle.awari_rank.specs.Rank.{rank_of, size_of}
use Rattle.awari_rank.proofs.Reaching.{board_reached}
use Rattle.awari_block.proofs.Freshness.{fresh_of_block}
use Rattle.awari_block.specs.Blocks.{cell_in, no_cell, IsBlock}
use Rattle.awari_block.specs.Part.{Part, AreFresh, part_of, settled_by}
use Rattle.awari_block.proofs.SixPits.{count_by-none, count_by-some}
use Rattle.awari_block.proofs.BlockLemmas.{cell_in-other, cell_in-same, one_if}
use Rattle.awari_block.proofs.Legality.{quiet_counted}

pub scanned : (value : List ℕ → ℤ) (p : List ℕ) (best : Option ℤ) → ((x : ℕ) × IsLegal p x) → IsBest value p best
    → ((v : ℤ) → Captures value p v → (neg_ℤ (pos (sum p + 1)) <ℤ v) × (v <ℤ pos (sum p + 1)))
    → IsPlain value p [] (sum p + 1) (plain.Open (left_of p []) best 0)
scanned value p best going is within = (
  λ ended. ended going.0 going.1,
  record { quiet_left = refl; best_capture = is; farthest = refl },
  record { below = below; above = by (captured p going.0) refl },
)
  where
    below : (v : ℤ) → Knows value p [] v → v <ℤ pos (sum p + 1)
    below v (inl capture) = (within v capture).1
    below v (inr note) = absurd note.1

    some : (n : ℕ) → n ≡ left_of p [] → captured p going.0 ≡ 0 → 0 < left_of p []
    some (suc n) e none = omega arith
    some zero e none = absurd (clash (is_legal p going.0) (captured p going.0) ((legal_is p going.0).1 going.1) none (count_by-none (is_left p []) (sym e) going.0 going.1.own))
      where
        clash : (a : Bool) (c : ℕ) → a ≡ true → c ≡ 0 → ((a && (c == 0)) && not false) ≡ false → ⊥
        clash a c e f g = grind (arith, nat_tests)

    by : (c : ℕ) → captured p going.0 ≡ c → (0 < left_of p []) ⊎ ((v : ℤ) × Knows value p [] v × (neg_ℤ (pos (sum p + 1)) <ℤ v))
    by zero e = inl (some (left_of p []) refl e)
    by (suc c) e =
        let capture : Captures value p (pos (suc c) -ℤ value (next_board p going.0)) =
        (going.0, suc c, next_board p going.0, record { legal = going.1; captures = sym e; leaves = refl }, omega arith, refl) in
        inr (pos (suc c) -ℤ value (next_board p going.0), inl capture, (within (pos (suc c) -ℤ value (next_board p going.0)) capture).0)

-- ---- the outlook, pit by pit

module _ (value : List ℕ → ℤ) (p : List ℕ) where
  pub outlook-none : IsCounted value p 0 0 None
  outlook-none = record { few = omega arith; counted = refl; best_below = λ x c q h move some. absurd (omega (arith, h)) }

  -- one pit more is one count more where it is a quiet move
  count-more : (k : ℕ) → k < 6 → count_by (is_left p []) (take (k + 1) pits) ≡ count_by (is_left p []) (take k pits) + one_if (is_left p [] k)
  count-more = below_six (λ k. count_by (is_left p []) (take (k + 1) pits) ≡ count_by (is_left p []) (take k pits) + one_if (is_left p [] k)) refl refl refl refl refl refl

  left-illegal : (k : ℕ) → (IsLegal p k → ⊥) → one_if (is_left p [] k) ≡ 0
  left-illegal k illegal = by (is_legal p k) refl
    where
      by : (b : Bool) → is_legal p k ≡ b → one_if ((is_legal p k && (captured p k == 0)) && not false) ≡ 0
      by true e = absurd (illegal ((legal_is p k).0 e))
      by false e = subst (λ b. one_if ((b && (captured p k == 0)) && not false) ≡ 0) (sym e) refl

  left-quiet : (k : ℕ) (q : List ℕ) → IsMove p k 0 q → one_if (is_left p [] k) ≡ 1
  left-quiet k q move = subst (λ b. one_if (b && not false) ≡ 1) (sym (quiet_counted p k 0 q move refl)) refl

  left-capture : (k c : ℕ) (q : List ℕ) → IsMove p k c q → 0 < c → one_if (is_left p [] k) ≡ 0
  left-capture k c q move some = by (captured p k == 0) refl
    where
      by : (b : Bool) → (captured p k == 0) ≡ b → one_if ((is_legal p k && (captured p k == 0)) && not false) ≡ 0
      by true e = absurd (let zero = eqb-true (captured p k) 0 e in omega (arith, some, zero, move.captures))
      by false e = subst (λ b. one_if ((is_legal p k && b) && not false) ≡ 0) (sym e) (none (is_legal p k))
        where
          none : (a : Bool) → one_if ((a && false) && not false) ≡ 0
          none true = refl
          none false = refl

  -- a pit below k + 1 is below k, or k
  split : (x k : ℕ) → x < k + 1 → (x < k) ⊎ (x ≡ k)
  split x k h = grind (arith, h)

  best-skips : (k : ℕ) (best : Option ℤ) → ((c : ℕ) (q : List ℕ) → IsMove p k c q → 0 < c → ⊥) → IsBestBelow value p k best → IsBestBelow value p (k + 1) best
  best-skips k None none h = λ x c q low move some. elim (split x k low) [ inl less ↦ h x c q less move some | inr same ↦ none c q (subst (λ y. IsMove p y c q) same move) some ]
  best-skips k (Some b) none h =
      (h.0, h.1, λ x c q low move some. elim (split x k low) [ inl less ↦ h.2 x c q less move some | inr same ↦ absurd (none c q (subst (λ y. IsMove p y c q) same move) some) ])

  pub outlook-skips : (k quiet : ℕ) (best : Option ℤ) → k < 6 → (IsLegal p k → ⊥) → IsCounted value p k quiet best → IsCounted value p (k + 1) quiet best
  outlook-skips k quiet best own illegal h = record {
    few = omega (arith, h.few);
    counted = let more = count-more k own in let none = left-illegal k illegal in omega (arith, h.counted, more, none);
    best_below = best-skips k best (λ c q move some. illegal move.legal) h.best_below;
  }

  pub outlook-quiet : (k quiet : ℕ) (best : Option ℤ) (q : List ℕ) → k < 6 → IsMove p k 0 q → IsCounted value p k quiet best → IsCounted value p (k + 1) (quiet + 1) best
  outlook-quiet k quiet best q own move h = record {
    few = omega (arith, h.few);
    counted = let more = count-more k own in let one = left-quiet k q move in omega (arith, h.counted, more, one);
    best_below = best-skips k best (λ c r other some. let none : c ≡ 0 = other.captures ∙ sym move.captures in absurd (omega (arith, some, none))) h.best_below;
  }

  -- what a capture gains is what any capture of the same pit gains
  same_gain : (k c d : ℕ) (q r : List ℕ) → IsMove p k c q → IsMove p k d r → (pos d -ℤ value r) ≡ (pos c -ℤ value q)
  same_gain k c d q r one two =
      let counts : d ≡ c = two.captures ∙ sym one.captures in
      let boards : r ≡ q = two.leaves ∙ sym one.leaves in
      ap (λ n. pos n -ℤ value r) counts ∙ ap (λ (b : List ℕ). pos c -ℤ value b) boards

  pub outlook-capture : (k quiet c : ℕ) (best : Option ℤ) (q : List ℕ) (v w : ℤ) → k < 6 → IsMove p k c q → 0 < c → v ≡ (pos c -ℤ value q) → IsWithin (sum p) v
      → (best ≡ None) × (w ≡ v) ⊎ ((b : ℤ) × (best ≡ Some b) × (b ≤ℤ w) × (v ≤ℤ w) × ((w ≡ b) ⊎ (w ≡ v)))
      → IsCounted value p k quiet best → IsCounted value p (k + 1) quiet (Some w)
  outlook-capture k quiet c best q v w own move some gain within either h = record {
    few = omega (arith, h.few);
    counted = let more = count-more k own in let none = left-capture k c q move some in omega (arith, h.counted, more, none);
    best_below = at either;
  }
    where
      here : Captures value p v
      here = (k, c, q, move, some, gain)

      at_k : (d : ℕ) (r : List ℕ) (x : ℕ) → x ≡ k → IsMove p x d r → (pos d -ℤ value r) ≡ v
      at_k d r x same other = same_gain k c d q r move (subst (λ y. IsMove p y d r) same other) ∙ sym gain

      at : (best ≡ None) × (w ≡ v) ⊎ ((b : ℤ) × (best ≡ Some b) × (b ≤ℤ w) × (v ≤ℤ w) × ((w ≡ b) ⊎ (w ≡ v))) → IsBestBelow value p (k + 1) (Some w)
      at (inl first) =
          let none : IsBestBelow value p k None = subst (IsBestBelow value p k) first.0 h.best_below in (
            subst (Captures value p) (sym first.1) here,
            subst (IsWithin (sum p)) (sym first.1) within,
            λ x d r low other more. elim (split x k low) [
              | inl less ↦ absurd (none x d r less other more)
              | inr same ↦ (let e = at_k d r x same other in let f = first.1 in omega (arith, ints, e, f))
            ],
          )
      at (inr later) =
          let before : IsBestBelow value p k (Some later.0) = subst (IsBestBelow value p k) later.1 h.best_below in (
            elim later.4 [ inl e ↦ subst (Captures value p) (sym e) before.0 | inr e ↦ subst (Captures value p) (sym e) here ],
            elim later.4 [ inl e ↦ subst (IsWithin (sum p)) (sym e) before.1 | inr e ↦ subst (IsWithin (sum p)) (sym e) within ],
            λ x d r low other more. elim (split x k low) [
              | inl less ↦ (let b = before.2 x d r less other more in let l = later.2 in omega (arith, ints, b, l))
              | inr same ↦ (let e = at_k d r x same other in let l = later.3 in omega (arith, ints, e, l))
            ],
          )

  -- all six pits
  pub best-all : (best : Option ℤ) → IsBestBelow value p 6 best → IsBest value p best
  best-all None h = λ v capture. h capture.0 capture.1 capture.2 capture.3.legal.own capture.3 capture.4
  best-all (Some b) h = (h.0, λ v capture. subst (λ u. u ≤ℤ b) (sym capture.5) (h.2 capture.0 capture.1 capture.2 capture.3.legal.own capture.3 capture.4))

  -- no pit is legal where none is quiet and none captures
  pub outlook-ended : (best : Option ℤ) → best ≡ None → IsCounted value p 6 0 best → IsEnded p
  outlook-ended best none h x legal = by (captured p x) refl
    where
      uncounted : left_of p [] ≡ 0
      uncounted = sym h.counted

      by : (c : ℕ) → captured p x ≡ c → ⊥
      by zero e =
          let counted = quiet_counted p x 0 (next_board p x) (record { legal = legal; captures = sym e; leaves = refl }) refl in
          clash (is_legal p x && (captured p x == 0)) counted (count_by-none (is_left p []) uncounted x legal.own)
        where
          clash : (a : Bool) → a ≡ true → (a && not false) ≡ false → ⊥
          clash a e f = grind arith
      by (suc c) e =
          let below : IsBestBelow value p 6 None = subst (IsBestBelow value p 6) none h.best_below in
          below x (suc c) (next_board p x) legal.own (record { legal = legal; captures = sym e; leaves = refl }) (omega arith)

  -- a quiet move is legal
  pub outlook-quiet_legal : (quiet : ℕ) (best : Option ℤ) → 0 < quiet → IsCounted value p 6 quiet best → (x : ℕ) × IsLegal p x
  outlook-quiet_legal quiet best some h =
      let found = count_by-some (is_left p []) (omega (arith, h.counted)) in
      (found.0, (legal_is p found.0).0 (first (is_legal p found.0) (captured p found.0 == 0) found.2))
    where
      first : (a b : Bool) → ((a && b) && not false) ≡ true → a ≡ true
      first a b e = grind arith

-- ---- the cell

-- a capture gains at most the stones on the board
pub captures_within : (value : List ℕ → ℤ) (p : List ℕ) → ((x c : ℕ) (q : List ℕ) → IsMove p x c q → IsBoard q × (sum q + c ≡ sum p)) → IsRanged value (sum p)
    → (v : ℤ) → Captures value p v → (neg_ℤ (pos (sum p + 1)) <ℤ v) × (v <ℤ pos (sum p + 1))
captures_within value p keeps ranged v capture =
    let kept = keeps capture.0 capture.1 capture.2 capture.3 in
    let some = capture.4 in
    let stones = kept.1 in
    let within = ranged capture.2 kept.0 (omega (arith, some, stones)) in
    let low = within.0 in
    let high = within.1 in
    let gain = capture.5 in
    (omega (arith, ints, low, high, gain, stones), omega (arith, ints, low, high, gain, stones, some))

-- the cell of a board of which no note was heard is a tally of none
pub scanned_tally : (value : List ℕ → ℤ) (p : List ℕ) (c : Cell) (t w : ℕ) → t ≡ sum p + 1 → IsScannedCell value p c → IsTally value (view_of c) p [] t w
scanned_tally value p c t w at h = record {
  once = tt;
  quiet = λ m has. absurd has;
  opened = λ m has. absurd has;
  waved = λ m has _. absurd has;
  few = h.tallied.few;
  left = h.tallied.left;
  status = subst (λ n. IsStatus value p [] n (status_of c)) (sym at) h.tallied.status;
}

-- ---- the cells, board by board

module _ (value : List ℕ → ℤ) (n start : ℕ) where
  -- one board more
  pub scanned-more : (rank : ℕ) (cells : List Cell) (c : Cell) (board : List ℕ) → ((b d : List ℕ) → IsBoard b → IsBoard d → sum b ≡ sum d → rank_of b ≡ rank_of d → b ≡ d)
      → IsBoard board → sum board ≡ n → rank_of board ≡ rank → start ≤ rank → rank - start < length cells → IsScannedCell value board c
      → AreScanned value n start rank cells → AreScanned value n start (rank + 1) (set cells (rank - start) c)
  scanned-more rank cells c board injective is stones ranked from inside here before p is_p stones_p low high = elim (cases_eq (rank_of p) rank) [
    | inl same ↦
        subst₂ (λ (q : List ℕ) r. IsScannedCell value q (cell_in start (set cells (rank - start) c) r)) (sym (injective p board is_p is (stones_p ∙ sym stones) (same ∙ sym ranked))) (sym same)
        (subst (IsScannedCell value board) (sym (cell_in-same start cells rank c inside)) here)
    | inr other ↦
        subst (IsScannedCell value p) (sym (cell_in-other start cells rank (rank_of p) c from low other)) (before p is_p stones_p low (omega (arith, high, other)))
  ]

-- ---- the block

module _ (value : List ℕ → ℤ) (n first last : ℕ) (cells : List Cell) (low : n ≤ 24) (within : last ≤ size_of n) (long : first + length cells ≡ last) (scanned_all : AreScanned value n first last cells) where
  -- each cell is that of a board
  scanned_at : (k : ℕ) → k < length cells → (p : List ℕ) × (sum p ≡ n) × IsScannedCell value p (get_or cells k no_cell)
  scanned_at k h =
      let board = board_reached n (first + k) low (omega (arith, h, long, within)) in
      let at : rank_of board.0 - first ≡ k = omega (arith, board.3) in
      (board.0, board.2, subst (λ j. IsScannedCell value board.0 (get_or cells j no_cell)) at (scanned_all board.0 board.1 board.2 (omega (arith, board.3)) (omega (arith, board.3, h, long))))

  -- no board is settled
  scanned_unsettled : (r : ℕ) → r - first < length cells → settled_by (status_of (cell_in first cells r)) ≡ None
  scanned_unsettled r high = at (cell_in first cells r).mark (scanned_at (r - first) high).2.unsettled
    where
      c : Cell
      c = cell_in first cells r

      at : (m : Mark) → is_settled m ≡ false → settled_by (status_by m c.score c.plans c.dist) ≡ None
      at Settled e = absurd (false≢true (sym e))
      at Quiet e = refl
      at Capturing e = refl
      at Noted e = refl
      at Ended e = refl

  module _ (level : ℕ) (is : level ≡ n) where
    abbrev pub stake : Stake
    stake = record { level = level; gain = level + 1; wave = 0 }

    block : IsBlock stake first cells []
    block = record {
      fit = λ k d h.
          let at = scanned_at k h in
          let same : get_or cells k d ≡ get_or cells k no_cell = get_or_default cells k d no_cell h in
          subst (Fits stake) (sym same) (subst (λ m. FitsBy (get_or cells k no_cell).mark m stake.gain (get_or cells k no_cell).score (get_or cells k no_cell).dist) (at.1 ∙ sym is) (at.2.fits stake.gain));
      settled = λ r. omega arith;
      due = λ k d h. absurd (omega (arith, h));
    }

    pub unopened_fits : All (λ (c : Cell). FitsBy c.mark level (level + 1) c.score c.dist) cells
    unopened_fits = block.fit

    module _ (part : Part) (seen : part ≡ part_of stake first cells []) where
      pub unopened_fresh : AreFresh part
      unopened_fresh = subst AreFresh (sym seen) (fresh_of_block stake first cells [] block)

      pub unopened_scanned : IsScannedPart value n first last part
      unopened_scanned = subst (IsScannedPart value n first last) (sym seen) (record {
        level = is;
        gain = ap (λ m. m + 1) is;
        wave = refl;
        start = refl;
        end = long;
        fresh = refl;
        unsettled = λ r inside. scanned_unsettled r inside.1;
        tallied = λ p board stones inside.
            let above = inside.0 in
            let below = inside.1 in
            scanned_tally value p (cell_in first cells (rank_of p)) (level + 1) 0 (omega (arith, stones)) (scanned_all p board (stones ∙ is) above (omega (arith, above, below, long)));
      })
