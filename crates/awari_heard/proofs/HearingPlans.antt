-- What a note makes of a cell with its plan.
use Rattle.std.proofs.Common.{◌≡◌, ℕ, ◌+◌, ◌-◌, ◌^◌, ◌<◌, ◌≤◌, ◌==◌, ◌⊎◌, ◌↔◌, inl, inr, Bool, true, false, not, ◌&&◌, ◌||◌, if◌then◌else◌, max, List, [], ◌∷◌, count_by, ℤ, pos, neg_ℤ, ◌≤ℤ◌, ◌<ℤ◌, Option, Some, None, refl, sym, ap, subst, ◌∙◌, arith, eqb-true}
use Rattle.std.specs.Ordering.{int_eq}
use Rattle.std.proofs.lemmas.Bool.{and_parts, eq-eqb, false≢true, or_cases, or_left, or_right}
use Rattle.std.proofs.lemmas.Int.{ints}
use Rattle.awari_board.specs.Rules.{captured}
use Rattle.awari_board.specs.Tests.{is_legal}
use Rattle.awari_block.specs.Notes.{Has, is_won, gain_by, is_heard_at, is_won_at}
use Rattle.awari_block.specs.Pits.{has_pit, with_pit, pits, without_pit}
use Rattle.awari_block.specs.Plain as plain
use Rattle.awari_block.specs.Plain.{is_left, left_of, Knows, IsSettledAs, IsDistance, IsPlain}
use Rattle.awari_block.specs.Steps.{is_best, best_after, greater_of, pits_after, unless_lost}
use Rattle.awari_heard.proofs.PlainSteps.{after_note, is_at_most}
use Rattle.awari_block.specs.declared.notes.Note.{Note}
use Rattle.awari_block.specs.declared.notes.Kind.{Kind}
use Rattle.awari_block.specs.declared.notes.Kind.TheVariants.{Won, Lost}
use Rattle.awari_block.proofs.NoteLists.{unwon_at}
use Rattle.awari_block.proofs.SixPits.{count_by-none}
use Rattle.awari_block.proofs.Legality.{quiet_counted}
use Rattle.awari_heard.proofs.Statuses.{IsNew, note_status}
use Rattle.awari_block.proofs.PitSets.{has_pit-with, has_pit-none, has_pit-alone, has_pit-without, none_left}
use Rattle.awari_block.specs.Steps as steps
use Rattle.awari_block.specs.Tally.{Best, Status, Ended, Open, Settled, best_gain, is_unheard, KnowsAt, KnownToServe, IsBestGain, IsOfCapture, IsOpenStatus, IsSettledStatus, IsStatus}
use Rattle.awari_block.proofs.Knowing.{int_eq-true, int_eq-same, known_before, gain_more, captures_more, best_gain-after}

-- ---- what is left

-- no pit is left where none of a set of these is
pub counts_none : (p : List ℕ) (notes : List Note) (left : ℕ) → ((x : ℕ) → x < 6 → has_pit left x ≡ is_left p notes x) → left ≡ 0 → left_of p notes ≡ 0
counts_none p notes left is none =
    let e0 = gone 0 (omega arith) in
    let e1 = gone 1 (omega arith) in
    let e2 = gone 2 (omega arith) in
    let e3 = gone 3 (omega arith) in
    let e4 = gone 4 (omega arith) in
    let e5 = gone 5 (omega arith) in
    all_gone (is_left p notes) e0 e1 e2 e3 e4 e5
  where
    gone : (x : ℕ) → x < 6 → is_left p notes x ≡ false
    gone x own = sym (is x own) ∙ ap (λ n. has_pit n x) none ∙ has_pit-none x

    all_gone : (f : ℕ → Bool) → f 0 ≡ false → f 1 ≡ false → f 2 ≡ false → f 3 ≡ false → f 4 ≡ false → f 5 ≡ false → count_by f pits ≡ 0
    all_gone f e0 e1 e2 e3 e4 e5 = rw (e0, e1, e2, e3, e4, e5) refl

pub nothing_left : (p : List ℕ) (notes : List Note) (left : ℕ) → left < 2 ^ 6 → ((x : ℕ) → x < 6 → has_pit left x ≡ is_left p notes x) → left_of p notes ≡ 0 → left ≡ 0
nothing_left p notes left few is none = none_left left few (λ x own. is x own ∙ count_by-none (is_left p notes) none x own)

-- a note leaves all but its pit
pub unheard_but : (p : List ℕ) (notes : List Note) (m : Note) (left : ℕ) → m.pit < 6 → ((x : ℕ) → x < 6 → has_pit left x ≡ is_unheard p notes x)
    → (x : ℕ) → x < 6 → has_pit (without_pit left m.pit) x ≡ is_unheard p (m ∷ notes) x
unheard_but p notes m left own is x below =
    has_pit-without left m.pit x own below
    ∙ ap (λ b. b && not (m.pit == x)) (is x below)
    ∙ same (is_legal p x && (captured p x == 0)) (is_heard_at notes x) (m.pit == x)
  where
    same : (a b c : Bool) → ((a && not b) && not c) ≡ (a && not (c || b))
    same true true true = refl
    same true true false = refl
    same true false true = refl
    same true false false = refl
    same false b c = refl

-- a board of which all that is known is below the open gain heard of won boards alone
low_won : (k : Kind) (g t : ℕ) → t ≤ g → gain_by k g <ℤ pos t → k ≡ Won
low_won Won g t h low = refl
low_won Lost g t h low = absurd (omega (arith, ints))

all_won : (notes : List Note) → ((m : Note) → Has notes m → m.kind ≡ Won) → (x : ℕ) → is_heard_at notes x ≡ is_won_at notes x
all_won [] won x = refl
all_won (k ∷ notes) won x = same (k.pit == x) (is_heard_at notes x) (is_won_at notes x) (is_won k.kind) (ap is_won (won k (inl refl))) (all_won notes (λ m has. won m (inr has)) x)
  where
    same : (a b c k : Bool) → k ≡ true → b ≡ c → (a || b) ≡ ((a && k) || c)
    same true b c k e f = subst (λ j. true ≡ ((true && j) || c)) (sym e) refl
    same false b c k e f = f

-- so what is left of it are the quiet moves with no Won note
pub unheard_left : (value : List ℕ → ℤ) (p : List ℕ) (notes : List Note) (t left : ℕ) → ((m : Note) → Has notes m → t ≤ m.gain) → ((v : ℤ) → Knows value p notes v → v <ℤ pos t)
    → ((x : ℕ) → x < 6 → has_pit left x ≡ is_unheard p notes x) → (x : ℕ) → x < 6 → has_pit left x ≡ is_left p notes x
unheard_left value p notes t left opened below is x own =
    is x own ∙ ap (λ b. (is_legal p x && (captured p x == 0)) && not b)
    (all_won notes (λ m has. low_won m.kind m.gain t (opened m has) (below (gain_by m.kind m.gain) (inr (m, has, refl)))) x)

-- ---- lost, or going on

-- A board that the plain status settles as lost is lost by its best, and one that it leaves open is not. The best is looked at
-- where it may gain -t.
pub lost_or_going : (value : List ℕ → ℤ) (p : List ℕ) (notes : List Note) (t count far left : ℕ) (capture looked gain : Option ℤ) (best : Best) (plans : ℕ) (test : Bool) → 1 ≤ t
    → IsPlain value p notes t (if test then plain.Settled (neg_ℤ (pos t)) (far + 1) else plain.Open count capture far)
    → left < 2 ^ 6 → ((x : ℕ) → x < 6 → has_pit left x ≡ is_left p notes x) → best_gain best ≡ gain → IsBestGain value p notes gain plans → IsOfCapture value p best
    → is_best looked (neg_ℤ (pos t)) ≡ is_best gain (neg_ℤ (pos t))
    → IsStatus value p notes t (unless_lost left looked best plans far t)
lost_or_going value p notes t count far left capture looked gain best plans true one (inl ended) few is at knows captures alike = absurd (let none = ended.2 in omega (arith, none))
lost_or_going value p notes t count far left capture looked gain best plans true one (inr going) few is at knows captures alike =
    subst (λ c. IsStatus value p notes t (if (left == 0) && c then Settled (neg_ℤ (pos t)) (far + 1) plans else Open best plans far)) (sym alike) (by gain knows)
  where
    gone : left ≡ 0
    gone = elim going.1.reached [ inl high ↦ absurd (omega (arith, ints, high)) | inr low ↦ nothing_left p notes left few is low.1 ]

    by : (gain : Option ℤ) → IsBestGain value p notes gain plans → IsStatus value p notes t (if (left == 0) && is_best gain (neg_ℤ (pos t)) then Settled (neg_ℤ (pos t)) (far + 1) plans else Open best plans far)
    by None none = absurd (none (neg_ℤ (pos t)) going.1.known)
    by (Some b) most = subst (λ c. IsStatus value p notes t (if c then Settled (neg_ℤ (pos t)) (far + 1) plans else Open best plans far)) (sym test_true) done
      where
        same : b ≡ neg_ℤ (pos t)
        same = let low = going.1.most b most.0 in let high = most.1 (neg_ℤ (pos t)) going.1.known in omega (arith, ints, low, high)

        test_true : ((left == 0) && int_eq b (neg_ℤ (pos t))) ≡ true
        test_true = both (left == 0) (int_eq b (neg_ℤ (pos t))) (eq-eqb left 0 gone) (int_eq-same b (neg_ℤ (pos t)) same)
          where
            both : (a c : Bool) → a ≡ true → c ≡ true → (a && c) ≡ true
            both a c e f = grind arith

        done : IsSettledStatus value p notes t (neg_ℤ (pos t)) (far + 1) plans
        done = record {
          settled = inr going;
          serve = λ x own. (
            λ has. elim (subst (KnowsAt value p notes x) same ((most.2 x own).0 has)) [
              | inl captures ↦ inl captures
              | inr note ↦ inr (note.0, note.1, note.2, note.3, λ positive. absurd (omega (arith, ints, positive)))
            ],
            λ serves. (most.2 x own).1 (subst (KnowsAt value p notes x) (sym same) (elim serves [
              | inl captures ↦ inl captures
              | inr note ↦ inr (note.0, note.1, note.2, note.3)
            ])),
          );
        }
lost_or_going value p notes t count far left capture looked gain best plans false one h few is at knows captures alike =
    subst (λ c. IsStatus value p notes t (if (left == 0) && c then Settled (neg_ℤ (pos t)) (far + 1) plans else Open best plans far)) (sym alike)
    (subst (λ c. IsStatus value p notes t (if c then Settled (neg_ℤ (pos t)) (far + 1) plans else Open best plans far)) (sym (test_false ((left == 0) && is_best gain (neg_ℤ (pos t))) refl)) (record {
      plain = (capture, subst (λ n. IsPlain value p notes t (plain.Open n capture far)) h.1.quiet_left h);
      known = subst (λ g. IsBestGain value p notes g plans) (sym at) knows;
      captures = captures;
    }))
  where
    clash : (left == 0) ≡ true → is_best gain (neg_ℤ (pos t)) ≡ true → ⊥
    clash gone equal = elim h.2.above [
      | inl some ↦ (let none = counts_none p notes left is (eqb-true left 0 gone) in omega (arith, some, none))
      | inr known ↦ by gain knows equal known.0 known.1 known.2
    ]
      where
        by : (gain : Option ℤ) → IsBestGain value p notes gain plans → is_best gain (neg_ℤ (pos t)) ≡ true → (v : ℤ) → Knows value p notes v → neg_ℤ (pos t) <ℤ v → ⊥
        by None none equal v known above = none v known
        by (Some b) most equal v known above =
            let same = int_eq-true b (neg_ℤ (pos t)) equal in let low = most.1 v known in omega (arith, ints, same, low, above)

    test_false : (c : Bool) → ((left == 0) && is_best gain (neg_ℤ (pos t))) ≡ c → ((left == 0) && is_best gain (neg_ℤ (pos t))) ≡ false
    test_false false e = e
    test_false true e = let parts = and_parts (left == 0) (is_best gain (neg_ℤ (pos t))) e in absurd (clash parts.0 parts.1)

-- ---- a note at each kind of cell

module _ (value : List ℕ → ℤ) (p : List ℕ) (notes : List Note) (t w : ℕ) (m : Note) (one : 1 ≤ t) (fresh : IsNew p notes t w m)
    (opened : (k : Note) → Has notes k → t ≤ k.gain) (waved : (k : Note) → Has notes k → k.gain ≡ t → k.dist ≤ w) where
  own : m.pit < 6
  own = fresh.quiet.1.legal.own

  gained-lost : m.kind ≡ Lost → gain_by m.kind m.gain ≡ pos t
  gained-lost e = ap (λ k. gain_by k m.gain) e ∙ ap pos fresh.gained

  gained-won : m.kind ≡ Won → gain_by m.kind m.gain ≡ neg_ℤ (pos t)
  gained-won e = ap (λ k. gain_by k m.gain) e ∙ ap (λ g. neg_ℤ (pos g)) fresh.gained

  -- a board that goes on hears of a lost one
  going_lost : (best : Best) (plans far : ℕ) → m.kind ≡ Lost → IsOpenStatus value p notes t best plans far
      → IsSettledStatus value p (m ∷ notes) t (pos t) (m.dist + 1) (2 ^ m.pit)
  going_lost best plans far e h = record {
    settled = subst (λ k. IsPlain value p (m ∷ notes) t (after_note (plain.Open (left_of p notes) h.plain.0 far) k t m.dist)) e
        (note_status value p notes t w m (plain.Open (left_of p notes) h.plain.0 far) one fresh opened waved h.plain.1);
    serve = λ x low. (
      λ has. inr (m, inl refl, eqb-true m.pit x (sym (has_pit-alone m.pit x) ∙ has), sym (gained-lost e), λ _. omega arith),
      λ serves. has_pit-alone m.pit x ∙ eq-eqb m.pit x (here x serves),
    );
  }
    where
      unknown : Knows value p notes (pos t) → ⊥
      unknown k = let low = h.plain.1.2.below (pos t) k in omega (arith, ints, low)

      here : (x : ℕ) → KnownToServe value p (m ∷ notes) (pos t) (m.dist + 1) x → m.pit ≡ x
      here x (inl (c, q, move, some, gain)) = absurd (unknown (inl (x, c, q, move, some, gain)))
      here x (inr (k, has, at, gain, near)) = by has
        where
          by : (k ≡ m) ⊎ Has notes k → m.pit ≡ x
          by (inl same) = ap (λ (j : Note). j.pit) (sym same) ∙ at
          by (inr there) = absurd (unknown (inr (k, there, gain)))

  -- and of a won one, after which these pits are left
  going_won : (left : ℕ) (best : Best) (plans far : ℕ) → left < 2 ^ 6 → ((x : ℕ) → x < 6 → has_pit left x ≡ is_unheard p (m ∷ notes) x) → m.kind ≡ Won
      → IsOpenStatus value p notes t best plans far → IsStatus value p (m ∷ notes) t (steps.after_note left (Open best plans far) Won m.pit t m.dist)
  going_won left best plans far few unheard e h =
      lost_or_going value p (m ∷ notes) t (left_of p notes - 1) (max m.dist far) left h.plain.0 (best_gain (best_after best (neg_ℤ (pos t)))) (greater_of (best_gain best) (neg_ℤ (pos t))) (best_after best (neg_ℤ (pos t))) (pits_after (best_gain best) plans (neg_ℤ (pos t)) m.pit)
      ((left_of p notes == 1) && is_at_most h.plain.0 (neg_ℤ (pos t))) one
      (subst (λ k. IsPlain value p (m ∷ notes) t (after_note (plain.Open (left_of p notes) h.plain.0 far) k t m.dist)) e
      (note_status value p notes t w m (plain.Open (left_of p notes) h.plain.0 far) one fresh opened waved h.plain.1))
      few
      (unheard_left value p (m ∷ notes) t left still_opened still_below unheard)
      (best_gain-after best (neg_ℤ (pos t)))
      (gain_more value p notes m (best_gain best) plans (neg_ℤ (pos t)) (gained-won e) h.known)
      (captures_more value p notes best plans (neg_ℤ (pos t)) h.known h.captures)
      (ap (λ g. is_best g (neg_ℤ (pos t))) (best_gain-after best (neg_ℤ (pos t))))
    where
      still_opened : (k : Note) → Has (m ∷ notes) k → t ≤ k.gain
      still_opened k (inl same) = subst (λ (j : Note). t ≤ j.gain) (sym same) (omega (arith, fresh.gained))
      still_opened k (inr has) = opened k has

      still_below : (v : ℤ) → Knows value p (m ∷ notes) v → v <ℤ pos t
      still_below v known = elim (known_before value p notes m v known) [
        | inl before ↦ h.plain.1.2.below v before
        | inr gain ↦ (let won = gained-won e in omega (arith, ints, gain, won, one))
      ]

  -- what serves, with a note that does not
  serves_still : (v : ℤ) (dist plans : ℕ) → ((v ≡ gain_by m.kind m.gain) → (pos 0 <ℤ v → m.dist < dist) → ⊥)
      → ((x : ℕ) → x < 6 → (has_pit plans x ≡ true) ↔ KnownToServe value p notes v dist x)
      → (x : ℕ) → x < 6 → (has_pit plans x ≡ true) ↔ KnownToServe value p (m ∷ notes) v dist x
  serves_still v dist plans fails serve x low = (λ has. more ((serve x low).0 has), λ serves. (serve x low).1 (before serves))
    where
      more : KnownToServe value p notes v dist x → KnownToServe value p (m ∷ notes) v dist x
      more (inl captures) = inl captures
      more (inr (k, has, at, gain, near)) = inr (k, inr has, at, gain, near)

      before : KnownToServe value p (m ∷ notes) v dist x → KnownToServe value p notes v dist x
      before (inl captures) = inl captures
      before (inr (k, inr has, at, gain, near)) = inr (k, has, at, gain, near)
      before (inr (k, inl e, at, gain, near)) =
          absurd (fails (gain ∙ ap (λ (j : Note). gain_by j.kind j.gain) e) (λ positive. subst (λ (j : Note). j.dist < dist) e (near positive)))

  -- and with one that does
  serves_too : (v : ℤ) (dist plans : ℕ) → v ≡ gain_by m.kind m.gain → m.dist < dist
      → ((x : ℕ) → x < 6 → (has_pit plans x ≡ true) ↔ KnownToServe value p notes v dist x)
      → (x : ℕ) → x < 6 → (has_pit (with_pit plans m.pit) x ≡ true) ↔ KnownToServe value p (m ∷ notes) v dist x
  serves_too v dist plans gains near serve x low = (
    λ has. elim (or_cases (m.pit == x) (has_pit plans x) (sym (has_pit-with plans m.pit x) ∙ has)) [
      | inl here ↦ inr (m, inl refl, eqb-true m.pit x here, gains, λ _. near)
      | inr there ↦ more ((serve x low).0 there)
    ],
    λ serves. has_pit-with plans m.pit x ∙ before serves,
  )
    where
      more : KnownToServe value p notes v dist x → KnownToServe value p (m ∷ notes) v dist x
      more (inl captures) = inl captures
      more (inr (k, has, at, gain, near)) = inr (k, inr has, at, gain, near)

      before : KnownToServe value p (m ∷ notes) v dist x → ((m.pit == x) || has_pit plans x) ≡ true
      before (inl captures) = or_right (m.pit == x) (has_pit plans x) ((serve x low).1 (inl captures))
      before (inr (k, inr has, at, gain, near)) = or_right (m.pit == x) (has_pit plans x) ((serve x low).1 (inr (k, has, at, gain, near)))
      before (inr (k, inl e, at, gain, near)) = or_left (m.pit == x) (has_pit plans x) (eq-eqb m.pit x (ap (λ (j : Note). j.pit) (sym e) ∙ at))

  -- the settled board that hears a note has a positive value, and a note of the gain t that it has is not farther than this one
  reaches : (v : ℤ) (dist : ℕ) → IsSettledAs value p notes t v dist → pos t ≤ℤ v
  reaches v dist s = elim s.reached [
    | inl high ↦ high
    | inr low ↦ absurd (clash (is_legal p m.pit && (captured p m.pit == 0)) (is_won_at notes m.pit) (quiet_counted p m.pit 0 fresh.quiet.0 fresh.quiet.1 refl) (unwon_at notes m.pit fresh.unheard)
        (count_by-none (is_left p notes) low.1 m.pit own))
  ]
    where
      clash : (a b : Bool) → a ≡ true → b ≡ false → (a && not b) ≡ false → ⊥
      clash a b e f g = grind arith

  no_farther : (v : ℤ) (dist : ℕ) → v ≡ pos t → IsDistance value p notes v dist → dist ≤ m.dist + 1
  no_farther v dist at (inl captures) = omega (arith, captures.2)
  no_farther v dist at (inr (inl (_, _, (k, has, gain, far, least)))) =
      let near = waved k has (by k.kind k.gain (gain ∙ at)) in omega (arith, far, near, fresh.waved)
    where
      by : (kind : Kind) (g : ℕ) → gain_by kind g ≡ pos t → g ≡ t
      by Won g e = absurd (omega (arith, ints, e, one))
      by Lost g e = omega (arith, ints, e)
  no_farther v dist at (inr (inr lost)) = absurd (let low = lost.0 in omega (arith, ints, low, at))

  -- a settled board hears of another
  done_still : (left : ℕ) (v : ℤ) (dist plans : ℕ) → IsSettledStatus value p notes t v dist plans → IsStatus value p (m ∷ notes) t (steps.after_note left (Settled v dist plans) m.kind m.pit t m.dist)
  done_still left v dist plans h = at h.settled
    where
      still : IsPlain value p (m ∷ notes) t (plain.Settled v dist)
      still = note_status value p notes t w m (plain.Settled v dist) one fresh opened waved h.settled

      at : IsPlain value p notes t (plain.Settled v dist) → IsStatus value p (m ∷ notes) t (steps.after_note left (Settled v dist plans) m.kind m.pit t m.dist)
      at (inl ended) = absurd (ended.0.stuck m.pit fresh.quiet.1.legal)
      at (inr (going, s)) = by_kind m.kind refl
        where
          high : pos t ≤ℤ v
          high = reaches v dist s

          by_kind : (k : Kind) → m.kind ≡ k → IsStatus value p (m ∷ notes) t (steps.after_note left (Settled v dist plans) k m.pit t m.dist)
          by_kind Won e = record {
            settled = still;
            serve = serves_still v dist plans (λ gain near. let won = gained-won e in omega (arith, ints, gain, won, high)) h.serve;
          }
          by_kind Lost e = by_test (int_eq v (pos t) && (dist == m.dist + 1)) refl
            where
              both : (a c : Bool) → a ≡ true → c ≡ true → (a && c) ≡ true
              both a c e f = grind arith

              by_test : (b : Bool) → (int_eq v (pos t) && (dist == m.dist + 1)) ≡ b → IsSettledStatus value p (m ∷ notes) t v dist (if b then with_pit plans m.pit else plans)
              by_test true test =
                  let parts = and_parts (int_eq v (pos t)) (dist == m.dist + 1) test in
                  let near = eqb-true dist (m.dist + 1) parts.1 in record {
                    settled = still;
                    serve = serves_too v dist plans (int_eq-true v (pos t) parts.0 ∙ sym (gained-lost e)) (omega (arith, near)) h.serve;
                  }
              by_test false test = record {
                settled = still;
                serve = serves_still v dist plans
                    (λ gain near.
                    let same : v ≡ pos t = gain ∙ gained-lost e in
                    let far = no_farther v dist same s.distance in
                    let less = near (omega (arith, ints, same)) in
                    false≢true (sym test ∙ both (int_eq v (pos t)) (dist == m.dist + 1) (int_eq-same v (pos t) same) (eq-eqb dist (m.dist + 1) (omega (arith, far, less)))))
                    h.serve;
              }

  -- what a note makes of what is known, after which these pits are left
  module _ (left : ℕ) (few : left < 2 ^ 6) (unheard : (x : ℕ) → x < 6 → has_pit left x ≡ is_unheard p (m ∷ notes) x) where
    pub note_known : (s : Status) → IsStatus value p notes t s → IsStatus value p (m ∷ notes) t (steps.after_note left s m.kind m.pit t m.dist)
    note_known (Ended gain) h = note_status value p notes t w m (plain.Ended gain) one fresh opened waved h
    note_known (Open best plans far) h = by m.kind refl
      where
        by : (k : Kind) → m.kind ≡ k → IsStatus value p (m ∷ notes) t (steps.after_note left (Open best plans far) k m.pit t m.dist)
        by Lost e = going_lost best plans far e h
        by Won e = going_won left best plans far few unheard e h
    note_known (Settled v dist plans) h = done_still left v dist plans h
