-- What the opening of a gain makes of a cell with its plan.
use Rattle.std.proofs.Common.{◌≡◌, ℕ, ◌+◌, ◌^◌, ◌<◌, ◌≤◌, ◌==◌, inl, inr, Bool, true, false, ◌&&◌, if◌then◌else◌, List, sum, ℤ, pos, neg_ℤ, ◌<ℤ◌, Option, Some, None, refl, sym, subst, ◌∙◌, arith}
use Rattle.std.specs.Ordering.{int_eq}
use Rattle.std.proofs.lemmas.Bool.{false≢true}
use Rattle.std.proofs.lemmas.Int.{ints}
use Rattle.awari_block.specs.Notes.{IsQuietMove, Has, gain_by}
use Rattle.awari_block.specs.Pits.{has_pit}
use Rattle.awari_block.specs.Plain as plain
use Rattle.awari_block.specs.Plain.{left_of, Knows, IsPlain}
use Rattle.awari_block.specs.Steps.{is_best, after_opening, unless_lost}
use Rattle.awari_block.specs.declared.notes.Note.{Note}
use Rattle.awari_block.specs.declared.notes.Kind.{Kind}
use Rattle.awari_block.specs.declared.notes.Kind.TheVariants.{Won, Lost}
use Rattle.awari_heard.proofs.Statuses.{opening_status}
use Rattle.awari_block.specs.Tally.{Best, Nothing, ByCapture, ByNotes, Status, Ended, Open, Settled, capture_of, best_gain, is_unheard, KnowsAt, KnownToServe, IsBestGain, IsOfCapture, IsSettledStatus, IsStatus}
use Rattle.awari_block.proofs.PitSets.{has_pit-none}
use Rattle.awari_block.proofs.Knowing.{int_eq-true, int_eq-same}
use Rattle.awari_heard.proofs.HearingPlans.{lost_or_going, unheard_left}

-- a note of a greater gain does not gain just t, or lose it
other_gain : (k : Kind) (g t : ℕ) → t + 1 ≤ g → pos t ≡ gain_by k g → ⊥
other_gain Won g t h e = omega (arith, ints)
other_gain Lost g t h e = omega (arith, ints)

other_loss : (k : Kind) (g t : ℕ) → t + 1 ≤ g → 1 ≤ t → neg_ℤ (pos t) ≡ gain_by k g → ⊥
other_loss Won g t h one e = omega (arith, ints)
other_loss Lost g t h one e = omega (arith, ints)

module _ (value : List ℕ → ℤ) (p : List ℕ) (notes : List Note) (t : ℕ) (one : 1 ≤ t) (gains : (m : Note) → Has notes m → t + 1 ≤ m.gain)
    (quiet : (m : Note) → Has notes m → (q : List ℕ) × IsQuietMove p m.pit q) where
  -- what is known of notes is of greater gains, so that of the best that gains t or -t a capture does
  looks_alike : (best : Best) (plans : ℕ) (v : ℤ) → ((k : Kind) (g : ℕ) → t + 1 ≤ g → v ≡ gain_by k g → ⊥) → IsBestGain value p notes (best_gain best) plans → IsOfCapture value p best
      → is_best (capture_of best) v ≡ is_best (best_gain best) v
  looks_alike Nothing plans v other is h = refl
  looks_alike (ByCapture b) plans v other is h = refl
  looks_alike (ByNotes b) plans v other is h = go (int_eq b v) refl
    where
      from : b ≡ v → Knows value p notes b → ⊥
      from e (inl captures) = h captures
      from e (inr note) = other note.0.kind note.0.gain (gains note.0 note.1) (sym e ∙ note.2)

      go : (c : Bool) → int_eq b v ≡ c → false ≡ int_eq b v
      go false e = sym e
      go true e = absurd (from (int_eq-true b v e) is.0)

  -- where the board is settled at t, its best gains that
  won_by_best : (gain : Option ℤ) (plans : ℕ) → IsPlain value p notes t (plain.Settled (pos t) 1) → IsBestGain value p notes gain plans
      → (is_best gain (pos t) ≡ true) × IsSettledStatus value p notes t (pos t) 1 plans
  won_by_best gain plans (inl ended) knows = absurd (let none = ended.2 in omega (arith, none))
  won_by_best None plans (inr going) none = absurd (none (pos t) going.1.known)
  won_by_best (Some b) plans (inr going) is = (
    int_eq-same b (pos t) same,
    record {
      settled = inr going;
      serve = λ x own. (
        λ has. more (subst (KnowsAt value p notes x) same ((is.2 x own).0 has)),
        λ serves. (is.2 x own).1 (subst (KnowsAt value p notes x) (sym same) (before serves)),
      );
    },
  )
    where
      same : b ≡ pos t
      same = let low = going.1.most b is.0 in let high = is.1 (pos t) going.1.known in omega (arith, ints, low, high)

      more : {x : ℕ} → KnowsAt value p notes x (pos t) → KnownToServe value p notes (pos t) 1 x
      more (inl captures) = inl captures
      more (inr (k, has, at, gain)) = absurd (other_gain k.kind k.gain t (gains k has) gain)

      before : {x : ℕ} → KnownToServe value p notes (pos t) 1 x → KnowsAt value p notes x (pos t)
      before (inl captures) = inl captures
      before (inr (k, has, at, gain, near)) = inr (k, has, at, gain)

  -- where it is not, all that is known is below t
  below_best : (count far : ℕ) (capture gain : Option ℤ) (plans : ℕ) (test : Bool) → IsPlain value p notes t (if test then plain.Settled (neg_ℤ (pos t)) (far + 1) else plain.Open count capture far)
      → IsBestGain value p notes gain plans → is_best gain (pos t) ≡ false
  below_best count far capture None plans test h none = refl
  below_best count far capture (Some b) plans test h is = go (int_eq b (pos t)) refl
    where
      low : (test : Bool) → IsPlain value p notes t (if test then plain.Settled (neg_ℤ (pos t)) (far + 1) else plain.Open count capture far) → b <ℤ pos t
      low true (inl ended) = absurd (let none = ended.2 in omega (arith, none))
      low true (inr going) = let most = going.1.most b is.0 in omega (arith, ints, most)
      low false h = h.2.below b is.0

      go : (c : Bool) → int_eq b (pos t) ≡ c → int_eq b (pos t) ≡ false
      go false e = e
      go true e = absurd (let same = int_eq-true b (pos t) e in let less = low test h in omega (arith, ints, same, less))

  -- what the opening of gain t makes of what is known
  pub opening_known : (left : ℕ) → left < 2 ^ 6 → ((x : ℕ) → x < 6 → has_pit left x ≡ is_unheard p notes x) → (s : Status) → IsStatus value p notes (t + 1) s
      → IsStatus value p notes t (after_opening left s (sum p) t)
  opening_known left few unheard (Ended gain) h = by_test (t == sum p) (opening_status value p notes t one gains (plain.Ended gain) h)
    where
      by_test : (b : Bool) → IsPlain value p notes t (if b then plain.Settled gain 0 else plain.Ended gain) → IsStatus value p notes t (if b then Settled gain 0 0 else Ended gain)
      by_test false still = still
      by_test true settled = record {
        settled = settled;
        serve = λ x own. (λ has. absurd (false≢true (sym (has_pit-none x) ∙ has)), λ serves. absurd (stuck x serves));
      }
        where
          stuck : (x : ℕ) → KnownToServe value p notes gain 0 x → ⊥
          stuck x (inl (c, q, move, some, same)) = h.0.stuck x move.legal
          stuck x (inr (k, has, at, same, near)) = h.0.stuck k.pit (quiet k has).1.legal
  opening_known left few unheard (Settled v dist plans) h = record { settled = opening_status value p notes t one gains (plain.Settled v dist) h.settled; serve = h.serve }
  opening_known left few unheard (Open best plans far) h =
      by_top (is_best h.plain.0 (pos t)) (opening_status value p notes t one gains (plain.Open (left_of p notes) h.plain.0 far) h.plain.1)
    where
      at_top : is_best (capture_of best) (pos t) ≡ is_best (best_gain best) (pos t)
      at_top = looks_alike best plans (pos t) (λ k g more e. other_gain k g t more e) h.known h.captures

      by_top : (b : Bool)
          → IsPlain value p notes t (if b then plain.Settled (pos t) 1 else (if (left_of p notes == 0) && is_best h.plain.0 (neg_ℤ (pos t)) then plain.Settled (neg_ℤ (pos t)) (far + 1) else plain.Open (left_of p notes) h.plain.0 far))
          → IsStatus value p notes t (if is_best (capture_of best) (pos t) then Settled (pos t) 1 plans else unless_lost left (capture_of best) best plans far t)
      by_top true settled =
          let (test, done) = won_by_best (best_gain best) plans settled h.known in
          subst (λ c. IsStatus value p notes t (if c then Settled (pos t) 1 plans else unless_lost left (capture_of best) best plans far t)) (sym (at_top ∙ test)) done
      by_top false rest =
          subst (λ c. IsStatus value p notes t (if c then Settled (pos t) 1 plans else unless_lost left (capture_of best) best plans far t))
          (sym (at_top ∙ below_best (left_of p notes) far h.plain.0 (best_gain best) plans ((left_of p notes == 0) && is_best h.plain.0 (neg_ℤ (pos t))) rest h.known))
          (lost_or_going value p notes t (left_of p notes) far left h.plain.0 (capture_of best) (best_gain best) best plans ((left_of p notes == 0) && is_best h.plain.0 (neg_ℤ (pos t))) one rest few
          (unheard_left value p notes (t + 1) left gains h.plain.1.2.below unheard) refl h.known h.captures
          (looks_alike best plans (neg_ℤ (pos t)) (λ k g more e. other_loss k g t more one e) h.known h.captures))
