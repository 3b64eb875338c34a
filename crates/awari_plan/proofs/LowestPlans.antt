-- The plan of a board at which all notes were heard is the lowest pit that serves, at gain 1.
use Rattle.std.proofs.Common.{◌≡◌, ℕ, zero, suc, ◌<◌, ◌≤◌, ◌==◌, ◌⊎◌, ◌↔◌, inl, inr, Bool, true, false, not, ◌&&◌, ◌||◌, if◌then◌else◌, is_some, List, [], ◌∷◌, ℤ, pos, neg_ℤ, ◌<ℤ◌, Option, Some, None, refl, sym, ap, subst, ◌∙◌, arith, bit_or}
use Rattle.std.specs.Prelude.{◌-ℤ◌}
use Rattle.std.specs.Ordering.{int_eq}
use Rattle.std.proofs.lemmas.Bool.Decides.{nat_tests}
use Rattle.std.proofs.lemmas.Bool.{false≢true, or_cases, or_left, or_right}
use Rattle.std.proofs.lemmas.Int.{ints}
use Rattle.awari_board.specs.Rules.{IsMove, captured, next_board}
use Rattle.awari_board.specs.Tests.{is_legal}
use Rattle.awari_table.specs.Certificate.{Table}
use Rattle.awari_table.specs.declared.images.Entry.{Entry}
use Rattle.awari_block.specs.Notes.{IsQuietMove, Has, is_won, gain_by, is_won_at}
use Rattle.awari_block.specs.Pits.{has_pit, IsLowestIn}
use Rattle.awari_block.specs.Plain as plain
use Rattle.awari_block.specs.Plain.{Captures, is_left, Knows, IsPlain}
use Rattle.awari_block.specs.Steps.{is_best, even_pits}
use Rattle.awari_block.specs.declared.notes.Note.{Note}
use Rattle.awari_block.specs.declared.notes.Kind.{Kind}
use Rattle.awari_block.specs.declared.notes.Kind.TheVariants.{Won, Lost}
use Rattle.awari_block.proofs.NoteLists.{won_note}
use Rattle.awari_block.proofs.Legality.{quiet_counted, counted_quiet}
use Rattle.awari_play.specs.Plan.{Serves, IsLowest}
use Rattle.awari_block.specs.Tally.{Best, Nothing, ByCapture, ByNotes, Cell, Status, Ended, Open, Settled, capture_of, best_gain, CapturesFrom, KnowsAt, KnownToServe, IsBestGain, IsOfCapture, IsOpenStatus, IsSettledStatus, IsStatus}
use Rattle.awari_heard.specs.Kept.{HasKept, IsKeptPlan}
use Rattle.awari_heard.specs.Finish.{value_by, dist_by, IsQuietAt}
use Rattle.awari_block.specs.Part.{settled_by}
use Rattle.awari_heard.proofs.HearingPlans.{unheard_left}
use Rattle.awari_block.proofs.PitSets.{has_pit-both}
use Rattle.awari_block.proofs.Knowing.{int_eq-true, int_eq-same, knows_at}
use Rattle.awari_heard.proofs.Finishing.{small_gain}

-- The table has of p, and of the boards that its moves lead to, what the cells know, and of boards of fewer stones these values.
pub record TableHas (value : List ℕ → ℤ) (cell : List ℕ → Cell) (t : Table) (p : List ℕ) : Type 0 where
  pub own : (t.value p ≡ value_by (cell p).status) × (t.dist p ≡ dist_by (cell p).status)
  pub quiet : (x : ℕ) (q : List ℕ) → IsQuietMove p x q → (t.value q ≡ value_by (cell q).status) × (t.dist q ≡ dist_by (cell q).status)
  pub captures : (x c : ℕ) (q : List ℕ) → IsMove p x c q → 0 < c → t.value q ≡ value q

-- the lowest pit of a set of those that serve
lowest_of : (t : Table) (p : List ℕ) (plans : ℕ) (o : Option ℕ) → ((x : ℕ) → x < 6 → (has_pit plans x ≡ true) ↔ Serves t p x) → IsLowestIn plans o → IsLowest t p o
lowest_of t p plans None serve none = λ x serves. let own = serves.2.legal.own in false≢true (sym (none x own) ∙ (serve x own).1 serves)
lowest_of t p plans (Some x) serve lowest = (
  (serve x lowest.0).0 lowest.1,
  λ y less serves. let own = serves.2.legal.own in false≢true (sym (lowest.2 y less) ∙ (serve y own).1 serves),
)

-- value and distance of a settled board
done_worth : (s : Status) (v : ℤ) (d : ℕ) → settled_by s ≡ Some (v, d) → (value_by s ≡ v) × (dist_by s ≡ d)
done_worth (Ended gain) v d e = absurd (false≢true (ap is_some e))
done_worth (Open best plans far) v d e = absurd (false≢true (ap is_some e))
done_worth (Settled u k plans) v d e =
    let one : ℤ × ℕ = (u, k) in
    let two : ℤ × ℕ = (v, d) in
    let same : one ≡ two = some_one one two e in
    (ap (λ (x : ℤ × ℕ). x.0) same, ap (λ (x : ℤ × ℕ). x.1) same)
  where
    some_one : (a b : ℤ × ℕ) → Some a ≡ Some b → a ≡ b
    some_one a b e = cc

no_zero_gain : (k : Kind) (g : ℕ) → 1 ≤ g → pos 0 ≡ gain_by k g → ⊥
no_zero_gain Won g h e = omega (arith, ints)
no_zero_gain Lost g h e = omega (arith, ints)

won_gain : (k : Kind) (g : ℕ) (v : ℤ) → is_won k ≡ true → 1 ≤ g → gain_by k g ≡ neg_ℤ v → v ≡ pos 0 → ⊥
won_gain Won g v e h gain none = omega (arith, ints)
won_gain Lost g v e h gain none = absurd (false≢true e)

-- a Won note is heard to be won
heard_won : (notes : List Note) (m : Note) → Has notes m → m.kind ≡ Won → is_won_at notes m.pit ≡ true
heard_won [] m h won = absurd h
heard_won (k ∷ notes) m (inl e) won = subst (λ (j : Note). is_won_at (j ∷ notes) m.pit ≡ true) e (at m.pit (is_won m.kind) (is_won_at notes m.pit) (ap is_won won))
  where
    at : (x : ℕ) (a b : Bool) → a ≡ true → (((x == x) && a) || b) ≡ true
    at x a b e = grind (arith, nat_tests)
heard_won (k ∷ notes) m (inr h) won = or_right ((k.pit == m.pit) && is_won k.kind) (is_won_at notes m.pit) (heard_won notes m h won)

and_not_parts : (a b : Bool) → (a && not b) ≡ true → (a ≡ true) × (b ≡ false)
and_not_parts a b e = grind arith

and_not_both : (a b : Bool) → a ≡ true → b ≡ false → (a && not b) ≡ true
and_not_both a b e f = grind arith

module _ (value : List ℕ → ℤ) (cell : List ℕ → Cell) (p : List ℕ) (notes : List Note) (heard : IsQuietAt value cell p notes) (t : Table) (has : TableHas value cell t p) where
  opened : (m : Note) → Has notes m → 1 ≤ m.gain
  opened = heard.tallied.1.opened

  -- the board that the move of a note leads to, by the table
  noted : (m : Note) → Has notes m → (q : List ℕ) × IsQuietMove p m.pit q × ((pos 0 -ℤ t.value q) ≡ gain_by m.kind m.gain) × (t.dist q ≡ m.dist)
  noted m there =
      let (q, v, d, quiet, settled, gain, dist) = heard.true_notes m there in
      let worth = done_worth (cell q).status v d settled in
      let says = has.quiet m.pit q quiet in
      (q, quiet, (let a = says.0 in let b = worth.0 in omega (arith, ints, a, b, gain)), omega (arith, says.1, worth.1, dist))

  -- the note of a quiet move to a board that is not worth 0
  noting : (x : ℕ) (q : List ℕ) (s : Status) → (cell q).status ≡ s → IsQuietMove p x q → (t.value q ≡ pos 0 → ⊥)
      → (m : Note) × Has notes m × (m.pit ≡ x) × ((pos 0 -ℤ t.value q) ≡ gain_by m.kind m.gain) × (t.dist q ≡ m.dist)
  noting x q (Ended gain) e quiet uneven = absurd (uneven ((has.quiet x q quiet).0 ∙ ap value_by e))
  noting x q (Open best plans far) e quiet uneven = absurd (uneven ((has.quiet x q quiet).0 ∙ ap value_by e))
  noting x q (Settled v d plans) e quiet uneven =
      let (m, there, at, gain, dist) = heard.all_notes x q v d quiet (ap settled_by e) in
      let says = has.quiet x q quiet in
      let worth : value_by (cell q).status ≡ v = ap value_by e in
      let far : dist_by (cell q).status ≡ d = ap dist_by e in
      (m, there, at, (let a = says.0 in omega (arith, ints, a, worth, gain)), omega (arith, says.1, far, dist))

  -- ---- a settled board

  module _ (v : ℤ) (d plans : ℕ) (is : (cell p).status ≡ Settled v d plans) (h : IsSettledStatus value p notes 1 v d plans) where
    own_value : t.value p ≡ v
    own_value = has.own.0 ∙ ap value_by is

    own_dist : t.dist p ≡ d
    own_dist = has.own.1 ∙ ap dist_by is

    done_to : (x : ℕ) → KnownToServe value p notes v d x → Serves t p x
    done_to x (inl (c, q, move, some, gain)) = (c, q, move, ap (λ z. pos c -ℤ z) (has.captures x c q move some) ∙ sym gain ∙ sym own_value, λ _. inl some)
    done_to x (inr (m, there, at, gain, near)) =
        let (q, quiet, gives, dist) = noted m there in (
          0,
          q,
          subst (λ y. IsQuietMove p y q) at quiet,
          gives ∙ sym gain ∙ sym own_value,
          λ positive. inr (let less = near (subst (λ z. pos 0 <ℤ z) own_value positive) in omega (arith, dist, less, own_dist)),
        )

    uneven : (x c : ℕ) (q : List ℕ) → IsMove p x c q → IsPlain value p notes 1 (plain.Settled v d) → v ≡ pos 0 → ⊥
    uneven x c q move (inl ended) e = ended.0.stuck x move.legal
    uneven x c q move (inr (going, s)) e = elim s.reached [ inl high ↦ omega (arith, ints, high, e) | inr low ↦ (let l = low.0 in omega (arith, ints, l, e)) ]

    done_from : (x : ℕ) → Serves t p x → KnownToServe value p notes v d x
    done_from x (suc c, q, move, gain, falls) =
        inl (suc c, q, move, omega arith, sym own_value ∙ sym gain ∙ ap (λ z. pos (suc c) -ℤ z) (has.captures x (suc c) q move (omega arith)))
    done_from x (zero, q, move, gain, falls) =
        let (m, there, at, gives, dist) = noting x q (cell q).status refl move (λ e. uneven x 0 q move h.settled (omega (arith, ints, e, gain, own_value))) in
        inr (m, there, at, sym own_value ∙ sym gain ∙ gives, λ positive. near m dist (falls (subst (λ z. pos 0 <ℤ z) (sym own_value) positive)))
      where
        near : (m : Note) → t.dist q ≡ m.dist → (0 < zero) ⊎ (t.dist q < t.dist p) → m.dist < d
        near m dist (inl some) = absurd (omega (arith, some))
        near m dist (inr less) = omega (arith, dist, less, own_dist)

    done_serves : (x : ℕ) → x < 6 → (has_pit plans x ≡ true) ↔ Serves t p x
    done_serves x own = (λ has. done_to x ((h.serve x own).0 has), λ serves. (h.serve x own).1 (done_from x serves))

  -- ---- a board that is not settled

  module _ (best : Best) (plans far : ℕ) (is : (cell p).status ≡ Open best plans far) (h : IsOpenStatus value p notes 1 best plans far) where
    abbrev left : ℕ
    left = (cell p).left

    even : t.value p ≡ pos 0
    even = has.own.0 ∙ ap value_by is

    below : (v : ℤ) → Knows value p notes v → v <ℤ pos 1
    below = h.plain.1.2.below

    quiet_left : (x : ℕ) → x < 6 → has_pit left x ≡ is_left p notes x
    quiet_left = unheard_left value p notes 1 left opened below heard.tallied.1.left

    never : pos 0 <ℤ t.value p → ⊥
    never positive = let none = subst (λ z. pos 0 <ℤ z) even positive in omega (arith, ints, none)

    -- a pit that is left leads to a board that is worth 0
    left_to : (x : ℕ) → is_left p notes x ≡ true → Serves t p x
    left_to x e = (0, next_board p x, quiet, (let z = zero_there in omega (arith, ints, z, even)), λ positive. absurd (never positive))
      where
        tests : ((is_legal p x && (captured p x == 0)) ≡ true) × (is_won_at notes x ≡ false)
        tests = and_not_parts (is_legal p x && (captured p x == 0)) (is_won_at notes x) e

        quiet : IsQuietMove p x (next_board p x)
        quiet = counted_quiet p x tests.0

        zero_there : t.value (next_board p x) ≡ pos 0
        zero_there = by (int_eq (t.value (next_board p x)) (pos 0)) refl
          where
            by : (b : Bool) → int_eq (t.value (next_board p x)) (pos 0) ≡ b → t.value (next_board p x) ≡ pos 0
            by true same = int_eq-true (t.value (next_board p x)) (pos 0) same
            by false other =
                let (m, there, at, gives, dist) = noting x (next_board p x) (cell (next_board p x)).status refl quiet (λ z. false≢true (sym other ∙ int_eq-same (t.value (next_board p x)) (pos 0) z)) in
                let won = small_gain m.kind m.gain (opened m there) (below (gain_by m.kind m.gain) (inr (m, there, refl))) in
                absurd (false≢true (sym tests.1 ∙ subst (λ y. is_won_at notes y ≡ true) at (heard_won notes m there won)))

    -- a move that is known to gain 0 is a capture
    known_to : (x : ℕ) → KnowsAt value p notes x (pos 0) → Serves t p x
    known_to x (inl (c, q, move, some, gain)) = (c, q, move, ap (λ z. pos c -ℤ z) (has.captures x c q move some) ∙ sym gain ∙ sym even, λ positive. absurd (never positive))
    known_to x (inr (m, there, at, gain)) = absurd (no_zero_gain m.kind m.gain (opened m there) gain)

    even_to : (x : ℕ) → x < 6 → (best : Best) → IsBestGain value p notes (best_gain best) plans → has_pit (even_pits left best plans) x ≡ true → Serves t p x
    even_to x own Nothing none e = left_to x (sym (quiet_left x own) ∙ e)
    even_to x own (ByNotes b) knows e = left_to x (sym (quiet_left x own) ∙ e)
    even_to x own (ByCapture b) knows e = by (int_eq b (pos 0)) refl e
      where
        by : (c : Bool) → int_eq b (pos 0) ≡ c → has_pit (if c then bit_or left plans else left) x ≡ true → Serves t p x
        by false other e = left_to x (sym (quiet_left x own) ∙ e)
        by true same e = elim (or_cases (has_pit left x) (has_pit plans x) (sym (has_pit-both left plans x) ∙ e)) [
          | inl quiet ↦ left_to x (sym (quiet_left x own) ∙ quiet)
          | inr plan ↦ known_to x (subst (KnowsAt value p notes x) (int_eq-true b (pos 0) same) ((knows.2 x own).0 plan))
        ]

    -- a pit that serves is left, or captures and gains 0
    left_from : (x : ℕ) (q : List ℕ) → IsQuietMove p x q → (pos 0 -ℤ t.value q) ≡ t.value p → is_left p notes x ≡ true
    left_from x q quiet gain = and_not_both (is_legal p x && (captured p x == 0)) (is_won_at notes x) (quiet_counted p x 0 q quiet refl) (unwon (is_won_at notes x) refl)
      where
        unwon : (b : Bool) → is_won_at notes x ≡ b → b ≡ false
        unwon false e = refl
        unwon true e =
            let (m, there, at, won) = won_note notes x e in
            let (r, other, gives, dist) = noted m there in
            let same : r ≡ q = other.leaves ∙ ap (next_board p) at ∙ sym quiet.leaves in
            let z : t.value q ≡ pos 0 = omega (arith, ints, gain, even) in
            absurd (won_gain m.kind m.gain (t.value r) won (opened m there) (omega (arith, ints, gives)) (ap t.value same ∙ z))

    capture_from : (x c : ℕ) (q : List ℕ) → IsMove p x c q → 0 < c → (pos c -ℤ t.value q) ≡ t.value p → CapturesFrom value p x (pos 0)
    capture_from x c q move some gain = (c, q, move, some, sym even ∙ sym gain ∙ ap (λ z. pos c -ℤ z) (has.captures x c q move some))

    with_left : (x : ℕ) (best : Best) → has_pit left x ≡ true → has_pit (even_pits left best plans) x ≡ true
    with_left x best e = by (is_best (capture_of best) (pos 0))
      where
        by : (c : Bool) → has_pit (if c then bit_or left plans else left) x ≡ true
        by false = e
        by true = has_pit-both left plans x ∙ or_left (has_pit left x) (has_pit plans x) e

    with_plan : (x : ℕ) → x < 6 → (best : Best) → IsBestGain value p notes (best_gain best) plans → IsOfCapture value p best → CapturesFrom value p x (pos 0) → has_pit (even_pits left best plans) x ≡ true
    with_plan x own Nothing none of captures = absurd (none (pos 0) (knows_at value p notes x (pos 0) (inl captures)))
    with_plan x own (ByCapture b) knows of captures =
        subst (λ c. has_pit (if c then bit_or left plans else left) x ≡ true) (sym (int_eq-same b (pos 0) same))
        (has_pit-both left plans x ∙ or_right (has_pit left x) (has_pit plans x) ((knows.2 x own).1 (subst (KnowsAt value p notes x) (sym same) (inl captures))))
      where
        same : b ≡ pos 0
        same = let low = knows.1 (pos 0) (knows_at value p notes x (pos 0) (inl captures)) in let high = below b knows.0 in omega (arith, ints, low, high)
    with_plan x own (ByNotes b) knows of captures = absurd (of (subst (Captures value p) (sym same) (x, captures.0, captures.1, captures.2, captures.3, captures.4)))
      where
        same : b ≡ pos 0
        same = let low = knows.1 (pos 0) (knows_at value p notes x (pos 0) (inl captures)) in let high = below b knows.0 in omega (arith, ints, low, high)

    even_from : (x : ℕ) → x < 6 → Serves t p x → has_pit (even_pits left best plans) x ≡ true
    even_from x own (zero, q, move, gain, falls) = with_left x best (quiet_left x own ∙ left_from x q move gain)
    even_from x own (suc c, q, move, gain, falls) = with_plan x own best h.known h.captures (capture_from x (suc c) q move (omega arith) gain)

    even_serves : (x : ℕ) → x < 6 → (has_pit (even_pits left best plans) x ≡ true) ↔ Serves t p x
    even_serves x own = (even_to x own best h.known, even_from x own)

  -- the plan of the cell's entry is the lowest pit that serves
  pub plan_lowest : (e : Entry) → HasKept (cell p) e → IsLowest t p e.plan
  plan_lowest e entry = at (cell p).status refl heard.tallied.1.status entry.1
    where
      at : (s : Status) → (cell p).status ≡ s → IsStatus value p notes 1 s → IsKeptPlan (cell p).left s e.plan → IsLowest t p e.plan
      at (Ended gain) is h plan = subst (IsLowest t p) (sym plan) (λ x serves. h.0.stuck x serves.2.legal)
      at (Open best plans far) is h plan = lowest_of t p (even_pits (cell p).left best plans) e.plan (even_serves best plans far is h) plan
      at (Settled v d plans) is h plan = lowest_of t p plans e.plan (done_serves v d plans is h) plan
