-- What is known of moves, pit by pit, once a note came in.
use Rattle.std.proofs.Common.{◌≡◌, ℕ, ◌^◌, ◌==◌, ◌⊎◌, inl, inr, Bool, true, false, if◌then◌else◌, List, ◌∷◌, ℤ, ◌≤ℤ◌, ◌<ℤ◌, Option, Some, None, refl, sym, ap, ◌∙◌, arith, eqb-true}
use Rattle.std.specs.Prelude.{int_lt}
use Rattle.std.specs.Ordering.{int_eq}
use Rattle.std.proofs.lemmas.Bool.Decides.{nat_tests, Decides-int_eq}
use Rattle.std.proofs.lemmas.Bool.{eq-eqb, false≢true, or_cases, or_left, or_right}
use Rattle.std.proofs.lemmas.Int.{ints}
use Rattle.awari_block.specs.Notes.{Has, gain_by}
use Rattle.awari_block.specs.Pits.{has_pit, with_pit}
use Rattle.awari_block.specs.Plain.{Knows}
use Rattle.awari_block.specs.declared.notes.Note.{Note}
use Rattle.awari_block.proofs.PitSets.{has_pit-with, has_pit-alone}
use Rattle.awari_block.specs.Tally.{Best, Nothing, ByCapture, ByNotes, best_gain, KnowsAt, IsBestGain, IsOfCapture}
use Rattle.awari_block.specs.Steps.{best_after, greater_of, pits_after}

-- ---- tests

pub int_lt-true : (a b : ℤ) → int_lt a b ≡ true → a <ℤ b
int_lt-true a b e = grind (arith, ints, nat_tests)

pub int_lt-false : (a b : ℤ) → int_lt a b ≡ false → b ≤ℤ a
int_lt-false a b e = grind (arith, ints, nat_tests)

pub int_eq-true : (a b : ℤ) → int_eq a b ≡ true → a ≡ b
int_eq-true a b e = (Decides-int_eq a b).0 e

pub int_eq-same : (a b : ℤ) → a ≡ b → int_eq a b ≡ true
int_eq-same a b e = (Decides-int_eq a b).1 e

pub int_eq-false : (a b : ℤ) → int_eq a b ≡ false → a ≡ b → ⊥
int_eq-false a b e same = false≢true (sym e ∙ int_eq-same a b same)

-- ---- one note more

module _ (value : List ℕ → ℤ) (p : List ℕ) (notes : List Note) where
  -- what is known of a move is known
  pub knows_at : (x : ℕ) (v : ℤ) → KnowsAt value p notes x v → Knows value p notes v
  knows_at x v (inl (c, q, move, some, gain)) = inl (x, c, q, move, some, gain)
  knows_at x v (inr (m, has, at, gain)) = inr (m, has, gain)

  pub known_more : (m : Note) (v : ℤ) → Knows value p notes v → Knows value p (m ∷ notes) v
  known_more m v (inl capture) = inl capture
  known_more m v (inr (k, has, gain)) = inr (k, inr has, gain)

  -- what is known is known without the note, or it is the note's gain
  pub known_before : (m : Note) (v : ℤ) → Knows value p (m ∷ notes) v → Knows value p notes v ⊎ (v ≡ gain_by m.kind m.gain)
  known_before m v (inl capture) = inl (inl capture)
  known_before m v (inr (k, has, gain)) = at has
    where
      at : (k ≡ m) ⊎ Has notes k → Knows value p notes v ⊎ (v ≡ gain_by m.kind m.gain)
      at (inl e) = inr (gain ∙ ap (λ (j : Note). gain_by j.kind j.gain) e)
      at (inr has) = inl (inr (k, has, gain))

  pub at_more : (m : Note) (x : ℕ) (v : ℤ) → KnowsAt value p notes x v → KnowsAt value p (m ∷ notes) x v
  at_more m x v (inl capture) = inl capture
  at_more m x v (inr (k, has, at, gain)) = inr (k, inr has, at, gain)

  pub at_before : (m : Note) (x : ℕ) (v : ℤ) → KnowsAt value p (m ∷ notes) x v → KnowsAt value p notes x v ⊎ ((m.pit ≡ x) × (v ≡ gain_by m.kind m.gain))
  at_before m x v (inl capture) = inl (inl capture)
  at_before m x v (inr (k, has, at, gain)) = by has
    where
      by : (k ≡ m) ⊎ Has notes k → KnowsAt value p notes x v ⊎ ((m.pit ≡ x) × (v ≡ gain_by m.kind m.gain))
      by (inl e) = inr (ap (λ (j : Note). j.pit) (sym e) ∙ at, gain ∙ ap (λ (j : Note). gain_by j.kind j.gain) e)
      by (inr has) = inl (inr (k, has, at, gain))

  -- a note that gains more than all that is known
  best_first : (m : Note) (v : ℤ) → gain_by m.kind m.gain ≡ v → ((u : ℤ) → Knows value p notes u → u <ℤ v) → IsBestGain value p (m ∷ notes) (Some v) (2 ^ m.pit)
  best_first m v e low = (
    inr (m, inl refl, sym e),
    λ u known. elim (known_before m u known) [ inl before ↦ (let l = low u before in omega (arith, ints)) | inr same ↦ omega (arith, ints, same, e) ],
    λ x own. (
      λ has. inr (m, inl refl, eqb-true m.pit x (sym (has_pit-alone m.pit x) ∙ has), sym e),
      λ known. elim (at_before m x v known) [
        | inl before ↦ absurd (let l = low v (knows_at x v before) in omega (arith, ints, l))
        | inr here ↦ has_pit-alone m.pit x ∙ eq-eqb m.pit x here.0
      ],
    ),
  )

  -- the greatest gain that is known, once a note came in
  pub gain_more : (m : Note) (best : Option ℤ) (pits : ℕ) (v : ℤ) → gain_by m.kind m.gain ≡ v → IsBestGain value p notes best pits
      → IsBestGain value p (m ∷ notes) (greater_of best v) (pits_after best pits v m.pit)
  gain_more m None pits v e none = best_first m v e (λ u known. absurd (none u known))
  gain_more m (Some b) pits v e is = by (int_lt b v) refl
    where
      by : (less : Bool) → int_lt b v ≡ less
          → IsBestGain value p (m ∷ notes) (if less then Some v else Some b) (if less then 2 ^ m.pit else (if int_eq b v then with_pit pits m.pit else pits))
      by true less = best_first m v e (λ u known. let a = is.1 u known in let l = int_lt-true b v less in omega (arith, ints))
      by false less = same (int_eq b v) refl
        where
          most : (u : ℤ) → Knows value p (m ∷ notes) u → u ≤ℤ b
          most u known = elim (known_before m u known) [ inl before ↦ is.1 u before | inr gain ↦ (let l = int_lt-false b v less in omega (arith, ints, gain, e, l)) ]

          same : (eq : Bool) → int_eq b v ≡ eq → IsBestGain value p (m ∷ notes) (Some b) (if eq then with_pit pits m.pit else pits)
          same true eq = (
            known_more m b is.0,
            most,
            λ x own. (
              λ has. elim (or_cases (m.pit == x) (has_pit pits x) (sym (has_pit-with pits m.pit x) ∙ has)) [
                | inl here ↦ inr (m, inl refl, eqb-true m.pit x here, int_eq-true b v eq ∙ sym e)
                | inr there ↦ at_more m x b ((is.2 x own).0 there)
              ],
              λ known. has_pit-with pits m.pit x ∙ elim (at_before m x b known) [
                | inl before ↦ or_right (m.pit == x) (has_pit pits x) ((is.2 x own).1 before)
                | inr here ↦ or_left (m.pit == x) (has_pit pits x) (eq-eqb m.pit x here.0)
              ],
            ),
          )
          same false eq = (
            known_more m b is.0,
            most,
            λ x own. (
              λ has. at_more m x b ((is.2 x own).0 has),
              λ known. elim (at_before m x b known) [ inl before ↦ (is.2 x own).1 before | inr here ↦ absurd (int_eq-false b v eq (here.1 ∙ e)) ],
            ),
          )

  -- and whether a capture gains it
  pub captures_more : (best : Best) (pits : ℕ) (v : ℤ) → IsBestGain value p notes (best_gain best) pits → IsOfCapture value p best → IsOfCapture value p (best_after best v)
  captures_more Nothing pits v none h = λ captures. none v (inl captures)
  captures_more (ByCapture b) pits v is h = by (int_lt b v) refl
    where
      by : (less : Bool) → int_lt b v ≡ less → IsOfCapture value p (if less then ByNotes v else ByCapture b)
      by true less = λ captures. let most = is.1 v (inl captures) in let l = int_lt-true b v less in omega (arith, ints, most, l)
      by false less = h
  captures_more (ByNotes b) pits v is h = by (int_lt b v) refl
    where
      by : (less : Bool) → int_lt b v ≡ less → IsOfCapture value p (if less then ByNotes v else ByNotes b)
      by true less = λ captures. let most = is.1 v (inl captures) in let l = int_lt-true b v less in omega (arith, ints, most, l)
      by false less = h

-- what the best gains is the greatest
pub best_gain-after : (best : Best) (v : ℤ) → best_gain (best_after best v) ≡ greater_of (best_gain best) v
best_gain-after Nothing v = refl
best_gain-after (ByCapture b) v = by (int_lt b v)
  where
    by : (less : Bool) → best_gain (if less then ByNotes v else ByCapture b) ≡ (if less then Some v else Some b)
    by true = refl
    by false = refl
best_gain-after (ByNotes b) v = by (int_lt b v)
  where
    by : (less : Bool) → best_gain (if less then ByNotes v else ByNotes b) ≡ (if less then Some v else Some b)
    by true = refl
    by false = refl
