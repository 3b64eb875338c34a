-- What is found of a board, pit by pit, and the cell that it makes.
use Rattle.std.proofs.Common.{◌≡◌, ℕ, zero, suc, ◌+◌, ◌^◌, ◌<◌, ◌==◌, ◌⊎◌, ◌↔◌, inl, inr, is_some, Bool, true, false, not, ◌&&◌, if◌then◌else◌, List, [], sum, ℤ, pos, neg_ℤ, ◌≤ℤ◌, Option, Some, None, refl, sym, ap, subst, subst₂, ◌∙◌, arith, eqb-true}
use Rattle.std.specs.Prelude.{◌-ℤ◌, int_lt}
use Rattle.std.specs.Ordering.{int_eq}
use Rattle.std.proofs.lemmas.Bool.Decides.{nat_tests}
use Rattle.std.proofs.lemmas.Bool.{eq-eqb, false≢true}
use Rattle.std.proofs.lemmas.Int.{ints}
use Rattle.std.proofs.lemmas.Nat.{or_lt, pow_below}
use Rattle.awari_board.specs.Rules.{IsBoard, IsMove, IsLegal, IsEnd, IsEnded, captured, next_board, own_stones}
use Rattle.awari_board.specs.Tests.{is_legal}
use Rattle.awari_board.proofs.Keeping.{IsBoard-next, sum-from_IsMove}
use Rattle.awari_block.specs.Cells.{status_by, status_of, view_of, is_settled, Fits, IsEither, IsWithin}
use Rattle.awari_block.specs.Part.{settled_by}
use Rattle.awari_block.specs.Tally as tally
use Rattle.awari_block.specs.declared.cells.Cell.{Cell}
use Rattle.awari_block.specs.declared.cells.Mark.{Mark}
use Rattle.awari_block.specs.declared.cells.Mark.TheVariants as mark
use Rattle.awari_block.specs.declared.stakes.Stake.{Stake}
use Rattle.awari_block.specs.Notes.{IsQuietMove}
use Rattle.awari_block.specs.Pits.{has_pit, with_pit}
use Rattle.awari_block.specs.Plain.{Captures, Knows, IsBest}
use Rattle.awari_scan.specs.Scan.{IsRanged, IsBestBelow, IsCounted, ArePlansBelow, IsOutlook, IsScannedCell, outlook_cell}
use Rattle.awari_block.proofs.Legality.{quiet_counted, counted_quiet}
use Rattle.awari_scan.proofs.Scanning.{outlook-none, outlook-skips, outlook-quiet, outlook-capture, outlook-ended, outlook-quiet_legal, best-all, captures_within, scanned}
use Rattle.awari_block.proofs.PitSets.{has_pit-alone, has_pit-none, none_left, none_below, still_below, more_below, split}
use Rattle.awari_block.specs.Tally.{Best, Nothing, ByCapture, Ended, Open, best_gain, CapturesFrom, KnowsAt, IsBestGain, IsOfCapture, IsOpenStatus, IsTally, IsStatus, is_unheard}
use Rattle.awari_block.specs.Steps.{greater_of, pits_after}
use Rattle.awari_block.proofs.Knowing.{int_lt-true, int_lt-false, int_eq-true, int_eq-false}

-- two tests of one fact are one
same_tests : (a b : Bool) (P : Type 0) → ((a ≡ true) ↔ P) → ((b ≡ true) ↔ P) → a ≡ b
same_tests true true P f g = refl
same_tests true false P f g = sym (g.1 (f.0 refl))
same_tests false true P f g = f.1 (g.0 refl)
same_tests false false P f g = refl

-- what holds at k and nowhere below k
first_below : (P : ℕ → Type 0) (k : ℕ) → P k → ((x : ℕ) → x < k → P x → ⊥) → (x : ℕ) → x < 6 → (has_pit (2 ^ k) x ≡ true) ↔ ((x < k + 1) × P x)
first_below P k here none x own = (
  λ has. let same = eqb-true k x (sym (has_pit-alone k x) ∙ has) in (omega (arith, same), subst P same here),
  λ there. has_pit-alone k x ∙ eq-eqb k x (elim (split x k there.0) [ inl less ↦ absurd (none x less there.1) | inr e ↦ e ]),
)

module _ (value : List ℕ → ℤ) (p : List ℕ) where
  pub seen_none : IsOutlook value p 0 0 None 0
  seen_none = record {
    counted = (0, outlook-none value p);
    few = omega arith;
    quiet_below = none_below (λ x. (q : List ℕ) × IsQuietMove p x q);
    plans_below = tt;
  }

  plans_still : (k : ℕ) (best : Option ℤ) (plans : ℕ) → ((c : ℕ) (q : List ℕ) → IsMove p k c q → 0 < c → ⊥) → ArePlansBelow value p k best plans → ArePlansBelow value p (k + 1) best plans
  plans_still k None plans none h = tt
  plans_still k (Some b) plans none h = still_below (λ x. CapturesFrom value p x b) plans k (λ captures. none captures.0 captures.1 captures.2 captures.3) h

  pub seen_illegal : (k quiet : ℕ) (best : Option ℤ) (plans : ℕ) → k < 6 → (IsLegal p k → ⊥) → IsOutlook value p k quiet best plans → IsOutlook value p (k + 1) quiet best plans
  seen_illegal k quiet best plans own illegal h = record {
    counted = (h.counted.0, outlook-skips value p k h.counted.0 best own illegal h.counted.1);
    few = h.few;
    quiet_below = still_below (λ x. (q : List ℕ) × IsQuietMove p x q) quiet k (λ there. illegal there.1.legal) h.quiet_below;
    plans_below = plans_still k best plans (λ c q move some. illegal move.legal) h.plans_below;
  }

  pub seen_quiet : (k quiet : ℕ) (best : Option ℤ) (plans : ℕ) (q : List ℕ) → k < 6 → IsQuietMove p k q → IsOutlook value p k quiet best plans
      → IsOutlook value p (k + 1) (with_pit quiet k) best plans
  seen_quiet k quiet best plans q own move h = record {
    counted = (h.counted.0 + 1, outlook-quiet value p k h.counted.0 best q own move h.counted.1);
    few = or_lt 6 quiet (2 ^ k) h.few (pow_below k 6 own);
    quiet_below = more_below (λ x. (q : List ℕ) × IsQuietMove p x q) quiet k (q, move) h.quiet_below;
    plans_below = plans_still k best plans (λ c r other some. let none : c ≡ 0 = other.captures ∙ sym move.captures in omega (arith, some, none)) h.plans_below;
  }

  module _ (k quiet c : ℕ) (q : List ℕ) (v : ℤ) (own : k < 6) (move : IsMove p k c q) (some : 0 < c) (gain : v ≡ (pos c -ℤ value q)) (within : IsWithin (sum p) v) where
    quiet_still : ((x : ℕ) → x < 6 → (has_pit quiet x ≡ true) ↔ ((x < k) × ((q : List ℕ) × IsQuietMove p x q))) → (x : ℕ) → x < 6 → (has_pit quiet x ≡ true) ↔ ((x < k + 1) × ((q : List ℕ) × IsQuietMove p x q))
    quiet_still = still_below (λ x. (q : List ℕ) × IsQuietMove p x q) quiet k (λ there. let none : c ≡ 0 = move.captures ∙ sym there.1.captures in omega (arith, some, none))

    here : CapturesFrom value p k v
    here = (c, q, move, some, gain)

    -- a capture from this pit gains this
    only : (u : ℤ) → CapturesFrom value p k u → u ≡ v
    only u (d, r, other, more, gains) =
        let counts : d ≡ c = other.captures ∙ sym move.captures in
        let boards : r ≡ q = other.leaves ∙ sym move.leaves in
        gains ∙ ap (λ n. pos n -ℤ value r) counts ∙ ap (λ (b : List ℕ). pos c -ℤ value b) boards ∙ sym gain

    seen_first : (plans : ℕ) → IsBestBelow value p k None → (x : ℕ) → x < 6 → (has_pit (2 ^ k) x ≡ true) ↔ ((x < k + 1) × CapturesFrom value p x v)
    seen_first plans none = first_below (λ x. CapturesFrom value p x v) k here (λ x less captures. none x captures.0 captures.1 less captures.2 captures.3)

    pub seen_captures : (best : Option ℤ) (plans : ℕ) → IsOutlook value p k quiet best plans → IsOutlook value p (k + 1) quiet (greater_of best v) (pits_after best plans v k)
    seen_captures None plans h = record {
      counted = (h.counted.0, outlook-capture value p k h.counted.0 c None q v v own move some gain within (inl (refl, refl)) h.counted.1);
      few = h.few;
      quiet_below = quiet_still h.quiet_below;
      plans_below = seen_first plans h.counted.1.best_below;
    }
    seen_captures (Some b) plans h = by (int_lt b v) refl
      where
        with_best : (w : ℤ) (pits : ℕ) → b ≤ℤ w → v ≤ℤ w → (w ≡ b) ⊎ (w ≡ v) → ArePlansBelow value p (k + 1) (Some w) pits → IsOutlook value p (k + 1) quiet (Some w) pits
        with_best w pits low high either are = record {
          counted = (h.counted.0, outlook-capture value p k h.counted.0 c (Some b) q v w own move some gain within (inr (b, refl, low, high, either)) h.counted.1);
          few = h.few;
          quiet_below = quiet_still h.quiet_below;
          plans_below = are;
        }

        by : (less : Bool) → int_lt b v ≡ less → IsOutlook value p (k + 1) quiet (if less then Some v else Some b) (if less then 2 ^ k else (if int_eq b v then with_pit plans k else plans))
        by true less =
            let l = int_lt-true b v less in
            with_best v (2 ^ k) (omega (arith, ints, l)) (omega (arith, ints)) (inr refl)
            (first_below (λ x. CapturesFrom value p x v) k here
            (λ x low captures. let most = h.counted.1.best_below.2 x captures.0 captures.1 low captures.2 captures.3 in let g = captures.4 in omega (arith, ints, most, l, g)))
        by false less = same (int_eq b v) refl
          where
            same : (eq : Bool) → int_eq b v ≡ eq → IsOutlook value p (k + 1) quiet (Some b) (if eq then with_pit plans k else plans)
            same true eq =
                with_best b (with_pit plans k) (omega (arith, ints)) (int_lt-false b v less) (inl refl)
                (more_below (λ x. CapturesFrom value p x b) plans k (subst (CapturesFrom value p k) (sym (int_eq-true b v eq)) here) h.plans_below)
            same false eq =
                with_best b plans (omega (arith, ints)) (int_lt-false b v less) (inl refl)
                (still_below (λ x. CapturesFrom value p x b) plans k (λ captures. int_eq-false b v eq (only b captures)) h.plans_below)

  -- ---- the cell

  unheard-quiet : (x : ℕ) → x < 6 → (is_unheard p [] x ≡ true) ↔ ((x < 6) × ((q : List ℕ) × IsQuietMove p x q))
  unheard-quiet x own = (
    λ e. (own, (next_board p x, counted_quiet p x (first (is_legal p x && (captured p x == 0)) e))),
    λ there. with (is_legal p x && (captured p x == 0)) (quiet_counted p x 0 there.1.0 there.1.1 refl),
  )
    where
      first : (a : Bool) → (a && not false) ≡ true → a ≡ true
      first a e = grind arith

      with : (a : Bool) → a ≡ true → (a && not false) ≡ true
      with a e = grind arith

  knows_captures : (v : ℤ) → Knows value p [] v → Captures value p v
  knows_captures v (inl captures) = captures
  knows_captures v (inr note) = absurd note.1

  captures_at : (x : ℕ) (v : ℤ) → KnowsAt value p [] x v → CapturesFrom value p x v
  captures_at x v (inl captures) = captures
  captures_at x v (inr note) = absurd note.1

  best_known : (best : Option ℤ) (plans : ℕ) → IsBest value p best → ArePlansBelow value p 6 best plans → IsBestGain value p [] best plans
  best_known None plans none are = λ v known. none v (knows_captures v known)
  best_known (Some b) plans best are = (
    inl best.0,
    λ v known. best.1 v (knows_captures v known),
    λ x own. (λ has. inl ((are x own).0 has).1, λ known. (are x own).1 (own, captures_at x b known)),
  )

  going : (quiet : ℕ) (best : Best) (plans : ℕ) → IsOfCapture value p best → IsBoard p → IsRanged value (sum p) → (x : ℕ) × IsLegal p x → IsOutlook value p 6 quiet (best_gain best) plans
      → IsBest value p (best_gain best) → IsOpenStatus value p [] (sum p + 1) best plans 0
  going quiet best plans of is ranged legal h most = record {
    plain = (best_gain best, scanned value p (best_gain best) legal most (captures_within value p (λ x c q move. (IsBoard-next p x c q is move, sum-from_IsMove p x c q is.pits move)) ranged));
    known = best_known (best_gain best) plans most h.plans_below;
    captures = of;
  }

  -- where no pit is quiet and none captures, no pit is legal
  none_quiet : (quiet : ℕ) → quiet ≡ 0 → IsOutlook value p 6 quiet None 0 → IsEnded p
  none_quiet quiet none h x legal = by (captured p x) refl
    where
      by : (c : ℕ) → captured p x ≡ c → ⊥
      by zero e =
          let move : IsQuietMove p x (next_board p x) = record { legal = legal; captures = sym e; leaves = refl } in
          false≢true (sym (has_pit-none x) ∙ ap (λ n. has_pit n x) (sym none) ∙ (h.quiet_below x legal.own).1 (legal.own, (next_board p x, move)))
      by (suc c) e = h.counted.1.best_below x (suc c) (next_board p x) legal.own (record { legal = legal; captures = sym e; leaves = refl }) (omega arith)

  pub seen_ended : (quiet : ℕ) (best : Option ℤ) (plans : ℕ) → quiet ≡ 0 → best ≡ None → IsOutlook value p 6 quiet best plans → IsEnded p
  seen_ended quiet best plans none nothing h =
      none_quiet quiet none (record {
        counted = (h.counted.0, subst (λ b. IsCounted value p 6 h.counted.0 b) nothing h.counted.1);
        few = h.few;
        quiet_below = h.quiet_below;
        plans_below = tt;
      })

  pub looked_known : (quiet : ℕ) (best : Option ℤ) (plans : ℕ) (gain : ℤ) → IsBoard p → IsRanged value (sum p) → IsOutlook value p 6 quiet best plans → (IsEnded p → IsEnd p gain)
      → IsStatus value p [] (sum p + 1) (outlook_cell quiet best plans gain).status
  looked_known quiet (Some b) plans gain is ranged h end =
      let below = h.counted.1.best_below in
      going quiet (ByCapture b) plans below.0 is ranged (below.0.0, below.0.3.legal) h (best-all value p (Some b) below)
  looked_known quiet None plans gain is ranged h end = by (quiet == 0) refl
    where
      bare : IsOutlook value p 6 quiet None 0
      bare = record { counted = h.counted; few = h.few; quiet_below = h.quiet_below; plans_below = tt }

      differ : (n : ℕ) → (n == 0) ≡ false → n ≡ 0 → ⊥
      differ n e same = false≢true (sym e ∙ eq-eqb n 0 same)

      by : (b : Bool) → (quiet == 0) ≡ b → IsStatus value p [] (sum p + 1) (if b then Ended gain else Open Nothing 0 0)
      by true e = (end (none_quiet quiet (eqb-true quiet 0 e) bare), omega arith)
      by false e =
          going quiet Nothing 0 tt is ranged (outlook-quiet_legal value p h.counted.0 None (some h.counted.0 refl) h.counted.1) bare (best-all value p None h.counted.1.best_below)
        where
          some : (n : ℕ) → n ≡ h.counted.0 → 0 < h.counted.0
          some (suc n) same = omega arith
          some zero same =
              let ended = outlook-ended value p None refl (subst (λ n. IsCounted value p 6 n None) (sym same) h.counted.1) in
              absurd (differ quiet e (none_left quiet h.few (λ x own. off (has_pit quiet x) (λ has. ended x ((h.quiet_below x own).0 has).1.1.legal))))
            where
              off : (b : Bool) → (b ≡ true → ⊥) → b ≡ false
              off true f = absurd (f refl)
              off false f = refl

  pub looked_planned : (quiet : ℕ) (best : Option ℤ) (plans : ℕ) (gain : ℤ) → IsBoard p → IsRanged value (sum p) → IsOutlook value p 6 quiet best plans → (IsEnded p → IsEnd p gain)
      → IsTally value (outlook_cell quiet best plans gain) p [] (sum p + 1) 0
  looked_planned quiet best plans gain is ranged h end = record {
    once = tt;
    quiet = λ m has. absurd has;
    opened = λ m has. absurd has;
    waved = λ m has _. absurd has;
    few = subst (λ n. n < 2 ^ 6) (sym (seen_left best)) h.few;
    left = λ x own. ap (λ n. has_pit n x) (seen_left best) ∙ same_tests (has_pit quiet x) (is_unheard p [] x) _ (h.quiet_below x own) (unheard-quiet x own);
    status = looked_known quiet best plans gain is ranged h end;
  }
    where
      seen_left : (best : Option ℤ) → (outlook_cell quiet best plans gain).left ≡ quiet
      seen_left None = refl
      seen_left (Some b) = refl

-- a cell that says so is scanned
unsettled_by : (c : Cell) → settled_by (status_of c) ≡ None → is_settled c.mark ≡ false
unsettled_by c e = at c.mark e
  where
    at : (m : Mark) → settled_by (status_by m c.score c.plans c.dist) ≡ None → is_settled m ≡ false
    at mark.Settled e = absurd (false≢true (sym (ap is_some e)))
    at mark.Quiet e = refl
    at mark.Capturing e = refl
    at mark.Noted e = refl
    at mark.Ended e = refl

pub scanned_looked : (value : List ℕ → ℤ) (p : List ℕ) (quiet : ℕ) (best : Option ℤ) (plans : ℕ) (gain : ℤ) (c : Cell) → IsBoard p → IsRanged value (sum p) → IsOutlook value p 6 quiet best plans
    → (IsEnded p → IsEnd p gain) → view_of c ≡ outlook_cell quiet best plans gain → ((stake : Stake) → stake.level ≡ sum p → Fits stake c) → IsScannedCell value p c
scanned_looked value p quiet best plans gain c is ranged h end view fits = record {
  fits = λ t. fits (record { level = sum p; gain = t; wave = 0 }) refl;
  unsettled = unsettled_by c (ap (λ (d : tally.Cell). settled_by d.status) view ∙ none best);
  tallied = subst (λ (d : tally.Cell). IsTally value d p [] (sum p + 1) 0) (sym view) (looked_planned value p quiet best plans gain is ranged h end);
}
  where
    none : (best : Option ℤ) → settled_by (outlook_cell quiet best plans gain).status ≡ None
    none (Some b) = refl
    none None = by (quiet == 0)
      where
        by : (b : Bool) → settled_by (if b then Ended gain else Open Nothing 0 0) ≡ None
        by true = refl
        by false = refl

-- what an end gains
end_is : (p : List ℕ) → IsEnded p → IsEnd p (if own_stones p == 0 then neg_ℤ (pos (sum p)) else pos (sum p))
end_is p stuck = record { stuck = stuck; gains = refl }

pub scanned_capturing : (value : List ℕ → ℤ) (p : List ℕ) (quiet : ℕ) (b : ℤ) (best : Option ℤ) (plans : ℕ) (c : Cell) → IsBoard p → IsRanged value (sum p) → best ≡ Some b → IsOutlook value p 6 quiet best plans
    → view_of c ≡ record { left = quiet; status = Open (ByCapture b) plans 0 } → ((stake : Stake) → IsWithin stake.level b → Fits stake c) → IsScannedCell value p c
scanned_capturing value p quiet b best plans c is ranged some h view fits =
    let found : IsOutlook value p 6 quiet (Some b) plans = subst (λ o. IsOutlook value p 6 quiet o plans) some h in
    scanned_looked value p quiet (Some b) plans _ c is ranged found (end_is p) view (λ stake level. fits stake (subst (λ n. IsWithin n b) (sym level) found.counted.1.best_below.1))

pub scanned_quiet : (value : List ℕ → ℤ) (p : List ℕ) (quiet : ℕ) (best : Option ℤ) (plans : ℕ) (c : Cell) → IsBoard p → IsRanged value (sum p) → best ≡ None → 0 < quiet → IsOutlook value p 6 quiet best plans
    → view_of c ≡ record { left = quiet; status = Open Nothing 0 0 } → ((stake : Stake) → Fits stake c) → IsScannedCell value p c
scanned_quiet value p quiet best plans c is ranged none some h view fits =
    let found : IsOutlook value p 6 quiet None plans = subst (λ o. IsOutlook value p 6 quiet o plans) none h in
    scanned_looked value p quiet None plans _ c is ranged found (end_is p)
    (view ∙ ap (λ b. record { left = quiet; status = if b then Ended (if own_stones p == 0 then neg_ℤ (pos (sum p)) else pos (sum p)) else Open Nothing 0 0 }) (sym (positive quiet some))) (λ stake level. fits stake)
  where
    positive : (n : ℕ) → 0 < n → (n == 0) ≡ false
    positive n some = grind (arith, nat_tests)

pub scanned_ended : (value : List ℕ → ℤ) (p : List ℕ) (quiet : ℕ) (best : Option ℤ) (plans : ℕ) (g : ℤ) (c : Cell) → IsBoard p → IsRanged value (sum p) → best ≡ None → quiet ≡ 0 → IsOutlook value p 6 quiet best plans → IsEnd p g
    → view_of c ≡ record { left = 0; status = Ended g } → ((stake : Stake) → IsEither stake.level g → Fits stake c) → IsScannedCell value p c
scanned_ended value p quiet best plans g c is ranged none zero_quiet h end view fits =
    let found : IsOutlook value p 6 0 None plans = subst₂ (λ n o. IsOutlook value p 6 n o plans) zero_quiet none h in
    scanned_looked value p 0 None plans g c is ranged found (λ stuck. end) view
    (λ stake level. fits stake (subst (IsEither stake.level) (sym end.gains) (either (own_stones p == 0) stake.level level)))
  where
    either : (b : Bool) (n : ℕ) → n ≡ sum p → IsEither n (if b then neg_ℤ (pos (sum p)) else pos (sum p))
    either true n e = inr (ap (λ m. neg_ℤ (pos m)) (sym e))
    either false n e = inl (ap pos (sym e))
