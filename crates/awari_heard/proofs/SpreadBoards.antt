-- Which boards are spread: what is spread stays so, and nothing else becomes so where the newly settled join the fresh.
use Rattle.std.proofs.Common.{◌≡◌, ℕ, ◌+◌, ◌≤◌, Bool, true, false, List, sum, ℤ, Some, is_some, ◌&&◌, nat_le, refl, sym, ap, subst, ◌∙◌, arith}
use Rattle.std.proofs.lemmas.Bool.Decides.{nat_tests}
use Rattle.awari_board.specs.Rules.{IsBoard}
use Rattle.awari_rank.specs.Rank.{rank_of}
use Rattle.awari_block.specs.Part.{Part, JoinsFresh, settled_at, settled_by}
use Rattle.awari_block.specs.Cells.{is_settled, status_of, status_by, Keeps}
use Rattle.awari_block.specs.declared.cells.Cell.{Cell}
use Rattle.awari_block.specs.declared.cells.Mark.{Mark}
use Rattle.awari_block.specs.declared.cells.Mark.TheVariants.{Ended, Quiet, Capturing, Noted, Settled}
use Rattle.std.proofs.lemmas.Bool.{false≢true}
use Rattle.awari_block.specs.Blocks.{is_settled_in, times_due, cell_in, KeepSettled}
use Rattle.awari_heard.specs.Heard.{IsSpread}
use Rattle.awari_block.proofs.BlockLemmas.{one_if}
use Rattle.awari_block.proofs.Freshness.{settled_cell}

-- two boards of the level with one rank are one
abbrev pub IsInjective : Type 0
IsInjective = (b c : List ℕ) → IsBoard b → IsBoard c → sum b ≡ sum c → rank_of b ≡ rank_of c → b ≡ c

pub some_settled : (c : Cell) (v : ℤ) (d : ℕ) → settled_by (status_of c) ≡ Some (v, d) → is_settled c.mark ≡ true
some_settled c v d e = at c.mark refl
  where
    at : (m : Mark) → c.mark ≡ m → is_settled c.mark ≡ true
    at Settled f = ap is_settled f
    at Quiet f = absurd (false≢true (ap (λ k. is_some (settled_by (status_by k c.score c.plans c.dist))) (sym f) ∙ ap is_some e))
    at Noted f = absurd (false≢true (ap (λ k. is_some (settled_by (status_by k c.score c.plans c.dist))) (sym f) ∙ ap is_some e))
    at Capturing f = absurd (false≢true (ap (λ k. is_some (settled_by (status_by k c.score c.plans c.dist))) (sym f) ∙ ap is_some e))
    at Ended f = absurd (false≢true (ap (λ k. is_some (settled_by (status_by k c.score c.plans c.dist))) (sym f) ∙ ap is_some e))

-- value and distance of a settled cell
pub settled_value : (c : Cell) → is_settled c.mark ≡ true → settled_by (status_of c) ≡ Some (c.score, c.dist)
settled_value c h = settled_cell c c.dist h refl

pub kept_status : (a b : Cell) → Keeps a b → is_settled a.mark ≡ true → settled_by (status_of b) ≡ settled_by (status_of a)
kept_status a b keeps e =
    let same = keeps e in
    settled_value b (ap is_settled same.0 ∙ e) ∙ (λ i. Some (same.1 i, same.2 i)) ∙ sym (settled_value a e)

pub is_settled_at : (part : Part) (r : ℕ) (v : ℤ) (d : ℕ) → part.start ≤ r → settled_at part r ≡ Some (v, d) → is_settled_in part.start part.cells r ≡ true
is_settled_at part r v d low e = both (nat_le part.start r) (is_settled (cell_in part.start part.cells r).mark) (le_true part.start r low) (some_settled (cell_in part.start part.cells r) v d e)
  where
    both : (a b : Bool) → a ≡ true → b ≡ true → (a && b) ≡ true
    both a b e f = grind arith

    le_true : (a b : ℕ) → a ≤ b → nat_le a b ≡ true
    le_true a b h = grind (arith, nat_tests)

-- what is spread stays spread
pub spread_stays : (old new : Part) → new.start ≡ old.start → KeepSettled old.start old.cells new.cells → JoinsFresh old new → (r : ℕ) (v : ℤ) (d : ℕ) → old.start ≤ r → IsSpread old r v d → IsSpread new r v d
spread_stays old new start keeps joins r v d low spread =
    let was = is_settled_at old r v d low spread.0 in
    let same : settled_at new r ≡ settled_at old r =
    ap (λ s. settled_by (status_of (cell_in s new.cells r))) start ∙ kept_status (cell_in old.start old.cells r) (cell_in old.start new.cells r) (keeps r low) (some_settled (cell_in old.start old.cells r) v d spread.0) in
    let one : one_if (is_settled_in old.start old.cells r) ≡ 1 = ap one_if was in
    let most : one_if (is_settled_in old.start new.cells r) ≤ 1 = at_most (is_settled_in old.start new.cells r) in
    let law : times_due new.fresh r + one_if (is_settled_in old.start old.cells r) ≡ times_due old.fresh r + one_if (is_settled_in old.start new.cells r) = joins r in
    (same ∙ spread.0, omega (arith, one, most, law, spread.1))
  where
    at_most : (b : Bool) → one_if b ≤ 1
    at_most true = omega arith
    at_most false = omega arith

-- and nothing else becomes spread
pub spread_before : (old new : Part) → new.start ≡ old.start → KeepSettled old.start old.cells new.cells → JoinsFresh old new → (r : ℕ) (v : ℤ) (d : ℕ) → old.start ≤ r → IsSpread new r v d → IsSpread old r v d
spread_before old new start keeps joins r v d low spread =
    let now : is_settled_in old.start new.cells r ≡ true = subst (λ s. is_settled_in s new.cells r ≡ true) start (is_settled_at new r v d (omega (arith, start)) spread.0) in
    let one : one_if (is_settled_in old.start new.cells r) ≡ 1 = ap one_if now in
    let law : times_due new.fresh r + one_if (is_settled_in old.start old.cells r) ≡ times_due old.fresh r + one_if (is_settled_in old.start new.cells r) = joins r in
    at (is_settled_in old.start old.cells r) refl law one
  where
    mark_is : is_settled_in old.start old.cells r ≡ true → is_settled (cell_in old.start old.cells r).mark ≡ true
    mark_is e = second (nat_le old.start r) (is_settled (cell_in old.start old.cells r).mark) e
      where
        second : (a b : Bool) → (a && b) ≡ true → b ≡ true
        second a b e = grind arith

    at : (b : Bool) → is_settled_in old.start old.cells r ≡ b → times_due new.fresh r + one_if (is_settled_in old.start old.cells r) ≡ times_due old.fresh r + one_if (is_settled_in old.start new.cells r)
        → one_if (is_settled_in old.start new.cells r) ≡ 1 → IsSpread old r v d
    at true e law one =
        let was : one_if (is_settled_in old.start old.cells r) ≡ 1 = ap one_if e in
        let same : settled_at new r ≡ settled_at old r =
        ap (λ s. settled_by (status_of (cell_in s new.cells r))) start ∙ kept_status (cell_in old.start old.cells r) (cell_in old.start new.cells r) (keeps r low) (mark_is e) in
        (sym same ∙ spread.0, omega (arith, law, one, was, spread.1))
    at false e law one = let was : one_if (is_settled_in old.start old.cells r) ≡ 0 = ap one_if e in absurd (omega (arith, law, one, was, spread.1))

-- a settled board keeps value and distance
pub settled_still : (old new : Part) → new.start ≡ old.start → KeepSettled old.start old.cells new.cells → (r : ℕ) (v : ℤ) (d : ℕ) → old.start ≤ r → settled_at old r ≡ Some (v, d) → settled_at new r ≡ Some (v, d)
settled_still old new start keeps r v d low settled =
    ap (λ s. settled_by (status_of (cell_in s new.cells r))) start
    ∙ kept_status (cell_in old.start old.cells r) (cell_in old.start new.cells r) (keeps r low) (some_settled (cell_in old.start old.cells r) v d settled) ∙ settled
