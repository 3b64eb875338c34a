-- A board at which all notes were heard keeps the rules of an image, at gain 1.
use Rattle.std.proofs.Common.{Option, ◌≡◌, ℕ, ◌<◌, ◌≤◌, ◌==◌, ◌⊎◌, inl, inr, Bool, true, false, not, ◌&&◌, ◌||◌, cond, List, [], ◌∷◌, sum, ℤ, pos, neg_ℤ, ◌≤ℤ◌, ◌<ℤ◌, refl, sym, ap, subst, ◌∙◌, arith}
use Rattle.std.proofs.lemmas.Bool.Decides.{nat_tests}
use Rattle.std.proofs.lemmas.Bool.{false≢true}
use Rattle.std.proofs.lemmas.Int.{ints}
use Rattle.awari_board.specs.Rules.{IsMove, IsEnd, IsEnded, captured, next_board, own_stones}
use Rattle.awari_block.specs.Notes.{IsQuietMove, Has, is_won, gain_by, is_won_at}
use Rattle.awari_board.specs.Tests.{is_legal}
use Rattle.awari_block.specs.Plain.{Status, Ended, Open, Settled, is_left, left_of, Captures, Knows, IsOpenAt, IsSettledAs, IsDistance, IsPlain as IsStatus}
use Rattle.awari_heard.proofs.PlainFinish.{value_by, dist_by, IsQuietAt, gains, IsRightAt}
use Rattle.awari_block.specs.declared.notes.Note.{Note}
use Rattle.awari_block.specs.declared.notes.Kind.{Kind}
use Rattle.awari_block.specs.declared.notes.Kind.TheVariants.{Won, Lost}
use Rattle.awari_table.specs.Certificate.{plies}
use Rattle.awari_table.proofs.CertificateLemmas.{plies_cases, plies_taken}
use Rattle.awari_block.proofs.NoteLists.{won_note, far_of-won, far_attained}
use Rattle.awari_block.proofs.SixPits.{count_by-none, count_by-some}
use Rattle.awari_block.proofs.Legality.{quiet_counted, counted_quiet}

-- two boards of one quiet move are one
one_next : (p : List ℕ) (x y : ℕ) (q r : List ℕ) → IsQuietMove p x q → IsQuietMove p y r → x ≡ y → q ≡ r
one_next p x y q r a b e = a.leaves ∙ ap (next_board p) e ∙ sym b.leaves

-- a Won note is heard to be won
heard_won : (notes : List Note) (m : Note) → Has notes m → is_won m.kind ≡ true → is_won_at notes m.pit ≡ true
heard_won [] m h won = absurd h
heard_won (k ∷ notes) m (inl e) won = subst (λ (j : Note). is_won_at (j ∷ notes) m.pit ≡ true) e (at (m.pit) (is_won m.kind) (is_won_at notes m.pit) won)
  where
    at : (x : ℕ) (a b : Bool) → a ≡ true → (((x == x) && a) || b) ≡ true
    at x a b e = grind (arith, nat_tests)
heard_won (k ∷ notes) m (inr h) won = or_true ((k.pit == m.pit) && is_won k.kind) (is_won_at notes m.pit) (heard_won notes m h won)
  where
    or_true : (a b : Bool) → b ≡ true → (a || b) ≡ true
    or_true a b e = grind arith

pub small_gain : (k : Kind) (g : ℕ) → 1 ≤ g → gain_by k g <ℤ pos 1 → k ≡ Won
small_gain Won g h low = refl
small_gain Lost g h low = absurd (omega (arith, ints))

no_zero_gain : (k : Kind) (g : ℕ) → 1 ≤ g → gain_by k g ≡ pos 0 → ⊥
no_zero_gain Won g h e = omega (arith, ints)
no_zero_gain Lost g h e = omega (arith, ints)

-- of a negative gain only a Won note
below_won : (k : Kind) (g : ℕ) → gain_by k g <ℤ pos 0 → k ≡ Won
below_won Won g low = refl
below_won Lost g low = absurd (omega (arith, ints))

module _ (value : List ℕ → ℤ) (cell : List ℕ → Status) (p : List ℕ) (notes : List Note) (heard : IsQuietAt value cell p notes) where
  -- where no quiet move is left, each has a Won note
  won_at : left_of p notes ≡ 0 → (x : ℕ) (q : List ℕ) → IsQuietMove p x q
      → (m : Note) × Has notes m × (is_won m.kind ≡ true) × (v : ℤ) × (d : ℕ) × ((cell q) ≡ Settled v d) × (m.dist ≡ d)
  won_at none x q quiet =
      let counted = quiet_counted p x 0 q quiet refl in
      let note = won_note notes x (flip (is_legal p x && (captured p x == 0)) (is_won_at notes x) counted (count_by-none (is_left p notes) none x quiet.legal.own)) in
      let told = heard.true_notes note.0 note.1 in
      let same : told.0 ≡ q = one_next p note.0.pit x told.0 q told.3 quiet note.2 in
      (note.0, note.1, note.3, told.1, told.2, subst (λ (r : List ℕ). (cell r) ≡ Settled told.1 told.2) same told.4, told.6)
    where
      flip : (a b : Bool) → a ≡ true → (a && not b) ≡ false → b ≡ true
      flip a b e f = grind arith

  right_settled : (v : ℤ) (d : ℕ) → (cell p) ≡ Settled v d → (IsEnded p → ⊥) → IsSettledAs value p notes 1 v d → IsRightAt value cell p
  right_settled v d is going s = record {
    ends = λ g end. absurd (going end.stuck);
    no_more = λ x c q u move gain. subst (λ z. u ≤ℤ value_by z) (sym is) (most x c q u move gain);
    planned = λ _. plan s.distance;
    even = λ e. absurd (let z : v ≡ pos 0 = sym (ap value_by is) ∙ e in nonzero z s.reached);
    uneven = λ _ _. subst (λ z. 1 ≤ dist_by z) (sym is) (some s.distance);
    losing = λ neg x q quiet. subst (λ z. dist_by (cell q) < dist_by z) (sym is) (nearer (subst (λ z. value_by z <ℤ pos 0) is neg) s.reached s.distance x q quiet);
    won = λ _ up. subst WonAt (sym is) (won_by (subst (λ z. pos 0 <ℤ value_by z) is up) s.distance);
    lost = λ _ down. subst LostAt (sym is) (lost_by (subst (λ z. value_by z <ℤ pos 0) is down) s.distance);
  }
    where
      nonzero : v ≡ pos 0 → (pos 1 ≤ℤ v) ⊎ ((v ≤ℤ neg_ℤ (pos 1)) × (left_of p notes ≡ 0)) → ⊥
      nonzero z (inl high) = omega (arith, ints)
      nonzero z (inr low) = let l = low.0 in omega (arith, ints)

      some : IsDistance value p notes v d → 1 ≤ d
      some (inl capture) = omega (arith, capture.2)
      some (inr (inl note)) = omega (arith, note.2.3)
      some (inr (inr lost)) = omega (arith, lost.1)

      quiet_most : (x : ℕ) (q : List ℕ) (s' : Status) → (cell q) ≡ s' → IsQuietMove p x q → neg_ℤ (value_by s') ≤ℤ v
      quiet_most x q (Settled u e) at quiet = let m = heard.all_notes x q u e quiet at in s.most (neg_ℤ u) (inr (m.0, m.1, sym m.3))
      quiet_most x q (Ended g) at quiet = elim s.reached [
        | inl high ↦ omega (arith, ints)
        | inr low ↦ absurd (let won = won_at low.1 x q quiet in unsettled (sym at ∙ won.5))
      ]
        where
          unsettled : {u : ℤ} {e : ℕ} → Ended g ≡ Settled u e → ⊥
          unsettled f = cc
      quiet_most x q (Open l b f) at quiet = elim s.reached [
        | inl high ↦ omega (arith, ints)
        | inr low ↦ absurd (let won = won_at low.1 x q quiet in unsettled (sym at ∙ won.5))
      ]
        where
          unsettled : {u : ℤ} {e : ℕ} → Open l b f ≡ Settled u e → ⊥
          unsettled f = cc

      most : (x c : ℕ) (q : List ℕ) (u : ℤ) → IsMove p x c q → gains value cell c q u → u ≤ℤ v
      most x c q u move (inl capture) = s.most u (inl (x, c, q, move, capture.0, capture.1))
      most x c q u move (inr quiet) = subst (λ z. z ≤ℤ v) (sym quiet.1) (quiet_most x q (cell q) refl (subst (λ k. IsMove p x k q) quiet.0 move))

      Plan : Type 0
      Plan = (x c : ℕ) × (q : List ℕ) × IsMove p x c q × gains value cell c q (value_by (cell p)) × (pos 0 <ℤ value_by (cell p) → (0 < c) ⊎ (dist_by (cell q) < dist_by (cell p)))

      by_capture : Captures value p v → Plan
      by_capture k = (k.0, k.1, k.2, k.3, inl (k.4, ap value_by is ∙ k.5), λ _. inl k.4)

      by_note : (m : Note) → Has notes m → v ≡ gain_by m.kind m.gain → (pos 0 <ℤ v → m.dist < d) → Plan
      by_note m has e near =
          let told = heard.true_notes m has in (
            m.pit,
            0,
            told.0,
            told.3,
            inr (refl, ap value_by is ∙ e ∙ told.5 ∙ ap neg_ℤ (sym (ap value_by told.4))),
            λ positive. inr (let less = near (subst (λ z. pos 0 <ℤ value_by z) is positive) in
                let dq : dist_by (cell told.0) ≡ told.2 = ap dist_by told.4 in let dp : dist_by (cell p) ≡ d = ap dist_by is in omega (arith, less, dq, dp, told.6)),
          )

      plan : IsDistance value p notes v d → Plan
      plan (inl capture) = by_capture capture.1
      plan (inr (inl note)) = by_note note.2.0 note.2.1 (sym note.2.2) (λ _. omega (arith, note.2.3))
      plan (inr (inr lost)) = elim s.known [ inl capture ↦ by_capture capture | inr m ↦ by_note m.0 m.1 m.2 (λ positive. let l = lost.0 in absurd (omega (arith, ints))) ]

      nearer : v <ℤ pos 0 → (pos 1 ≤ℤ v) ⊎ ((v ≤ℤ neg_ℤ (pos 1)) × (left_of p notes ≡ 0)) → IsDistance value p notes v d → (x : ℕ) (q : List ℕ) → IsQuietMove p x q → dist_by (cell q) < d
      nearer neg (inl high) far x q quiet = absurd (omega (arith, ints))
      nearer neg (inr low) (inl capture) x q quiet = absurd (let k = capture.0 in omega (arith, ints))
      nearer neg (inr low) (inr (inl note)) x q quiet = absurd (let k = note.0 in omega (arith, ints))
      nearer neg (inr low) (inr (inr lost)) x q quiet =
          let won = won_at low.1 x q quiet in
          let dq : dist_by (cell q) ≡ won.4 = ap dist_by won.5 in
          let within = far_of-won notes won.0 won.1 won.2 in omega (arith, dq, within, won.6, lost.1)

      WonAt : Status → Type 0
      WonAt z =
          ((x c : ℕ) × (q : List ℕ) × IsMove p x c q × gains value cell c q (value_by z) × (plies c (dist_by (cell q)) ≡ dist_by z))
          × ((x c : ℕ) (q : List ℕ) → IsMove p x c q → gains value cell c q (value_by z) → dist_by z ≤ plies c (dist_by (cell q)))

      LostAt : Status → Type 0
      LostAt z =
          ((x c : ℕ) × (q : List ℕ) × IsMove p x c q × (plies c (dist_by (cell q)) ≡ dist_by z))
          × ((x c : ℕ) (q : List ℕ) → IsMove p x c q → plies c (dist_by (cell q)) ≤ dist_by z)

      -- the move of a note, and its plies
      noted : (m : Note) → Has notes m → (q : List ℕ) × IsMove p m.pit 0 q × (gain_by m.kind m.gain ≡ neg_ℤ (value_by (cell q))) × (dist_by (cell q) ≡ m.dist)
      noted m has = let told = heard.true_notes m has in (told.0, told.3, told.5 ∙ ap neg_ℤ (sym (ap value_by told.4)), ap dist_by told.4 ∙ sym told.6)

      -- a quiet move that gains a positive value has a note of this gain
      note_of : (x : ℕ) (q : List ℕ) (z : Status) → (cell q) ≡ z → IsQuietMove p x q → pos 0 <ℤ v → v ≡ neg_ℤ (value_by z)
          → (m : Note) × Has notes m × (gain_by m.kind m.gain ≡ v) × (m.dist ≡ dist_by z)
      note_of x q (Settled u e) at quiet up gain = let m = heard.all_notes x q u e quiet at in (m.0, m.1, m.3 ∙ sym gain, m.4)
      note_of x q (Ended g) at quiet up gain = absurd (omega (arith, ints, gain))
      note_of x q (Open l b f) at quiet up gain = absurd (omega (arith, ints, gain))

      won_by : pos 0 <ℤ v → IsDistance value p notes v d → WonAt (Settled v d)
      won_by up (inl (_, (x, c, q, move, some, gain), one)) = (
        (x, c, q, move, inl (some, gain), plies_taken c (dist_by (cell q)) some ∙ sym one),
        λ y k r other _. elim (plies_cases k (dist_by (cell r))) [ inl taken ↦ omega (arith, taken.1, one) | inr quiet ↦ omega (arith, quiet.1, one) ],
      )
      won_by up (inr (inl (_, none, (m, has, gain, far, nearest)))) =
          let (q, quiet, gives, near) = noted m has in (
            (m.pit, 0, q, quiet, inr (refl, sym gain ∙ gives), omega (arith, near, far)),
            λ y k r other gained. elim gained [
              | inl taken ↦ absurd (none (y, k, r, other, taken.0, taken.1))
              | inr still ↦
                  let plain = subst (λ i. IsMove p y i r) still.0 other in
                  let (j, there, same, dist) = note_of y r (cell r) refl plain up still.1 in
                  let first = nearest j there same in
                  subst (λ i. d ≤ plies i (dist_by (cell r))) (sym still.0) (omega (arith, far, first, dist))
            ],
          )
      won_by up (inr (inr lost)) = absurd (let k = lost.0 in omega (arith, ints, k))

      lost_by : v <ℤ pos 0 → IsDistance value p notes v d → LostAt (Settled v d)
      lost_by down (inl capture) = absurd (let k = capture.0 in omega (arith, ints, k))
      lost_by down (inr (inl note)) = absurd (let k = note.0 in omega (arith, ints, k))
      lost_by down (inr (inr lost)) = (
        elim (far_attained notes) [
          | inr some ↦ let (q, quiet, gives, near) = noted some.0 some.1 in (some.0.pit, 0, q, quiet, omega (arith, near, some.2, lost.1))
          | inl none ↦ elim s.known [
            | inl (x, c, q, move, some, gain) ↦ (x, c, q, move, plies_taken c (dist_by (cell q)) some ∙ omega (arith, none, lost.1))
            | inr (m, has, gain) ↦
                let (q, quiet, gives, near) = noted m has in
                let least = far_of-won notes m has (ap is_won (below_won m.kind m.gain (subst (λ z. z <ℤ pos 0) gain down))) in
                (m.pit, 0, q, quiet, omega (arith, near, none, least, lost.1))
          ]
        ],
        λ x c q move. elim (plies_cases c (dist_by (cell q))) [
          | inl taken ↦ omega (arith, taken.1, lost.1)
          | inr still ↦
              let near = nearer down s.reached s.distance x q (subst (λ i. IsMove p x i q) still.0 move) in
              omega (arith, still.1, near)
        ],
      )

  right_ended : (gain : ℤ) → IsEnd p gain → ((g : ℤ) → IsEnd p g → value_by (cell p) ≡ g) → dist_by (cell p) ≡ 0 → IsRightAt value cell p
  right_ended gain end valued near = record {
    ends = λ g e. (valued g e, near);
    no_more = λ x c q u move gain. absurd (end.stuck x move.legal);
    planned = λ going. absurd (going end.stuck);
    even = λ _. near;
    uneven = λ going _. absurd (going end.stuck);
    losing = λ neg x q quiet. absurd (end.stuck x quiet.legal);
    won = λ going. absurd (going end.stuck);
    lost = λ going. absurd (going end.stuck);
  }

  right_open : (left : ℕ) (best : Option ℤ) (far : ℕ) → (cell p) ≡ Open left best far → (IsEnded p → ⊥) → IsOpenAt value p notes 1 → IsRightAt value cell p
  right_open left best far is going h = record {
    ends = λ g end. absurd (going end.stuck);
    no_more = λ x c q u move gain. subst (λ z. u ≤ℤ value_by z) (sym is) (most x c q u move gain);
    planned = λ _. plan h.above;
    even = λ _. ap dist_by is;
    uneven = λ _ other. absurd (other (ap value_by is));
    losing = λ neg x q quiet. absurd (let k = subst (λ z. value_by z <ℤ pos 0) is neg in omega (arith, ints, k));
    won = λ _ up. absurd (let k = subst (λ z. pos 0 <ℤ value_by z) is up in omega (arith, ints, k));
    lost = λ _ down. absurd (let k = subst (λ z. value_by z <ℤ pos 0) is down in omega (arith, ints, k));
  }
    where
      opened : (m : Note) → Has notes m → 1 ≤ m.gain
      opened = heard.opened

      most : (x c : ℕ) (q : List ℕ) (u : ℤ) → IsMove p x c q → gains value cell c q u → u ≤ℤ pos 0
      most x c q u move (inl capture) = let b = h.below u (inl (x, c, q, move, capture.0, capture.1)) in omega (arith, ints, b)
      most x c q u move (inr quiet) = subst (λ z. z ≤ℤ pos 0) (sym quiet.1) (at (cell q) refl)
        where
          at : (s : Status) → (cell q) ≡ s → neg_ℤ (value_by s) ≤ℤ pos 0
          at (Ended g) e = omega (arith, ints)
          at (Open l b f) e = omega (arith, ints)
          at (Settled v d) e =
              let m = heard.all_notes x q v d (subst (λ k. IsMove p x k q) quiet.0 move) e in
              let b = h.below (neg_ℤ v) (inr (m.0, m.1, sym m.3)) in omega (arith, ints, b)

      Plan : Type 0
      Plan = (x c : ℕ) × (q : List ℕ) × IsMove p x c q × gains value cell c q (value_by (cell p)) × (pos 0 <ℤ value_by (cell p) → (0 < c) ⊎ (dist_by (cell q) < dist_by (cell p)))

      never : pos 0 <ℤ value_by (cell p) → ⊥
      never k = let j = subst (λ z. pos 0 <ℤ value_by z) is k in omega (arith, ints, j)

      parts : (a b : Bool) → (a && not b) ≡ true → (a ≡ true) × (b ≡ false)
      parts a b e = grind arith

      plan : (0 < left_of p notes) ⊎ ((v : ℤ) × Knows value p notes v × (neg_ℤ (pos 1) <ℤ v)) → Plan
      plan (inl some) =
          let found = count_by-some (is_left p notes) some in
          let tests = parts (is_legal p found.0 && (captured p found.0 == 0)) (is_won_at notes found.0) found.2 in
          let quiet = counted_quiet p found.0 tests.0 in
          (found.0, 0, next_board p found.0, quiet, inr (refl, ap value_by is ∙ at found.0 quiet tests.1 (cell (next_board p found.0)) refl), λ k. absurd (never k))
        where
          at : (x : ℕ) → IsQuietMove p x (next_board p x) → is_won_at notes x ≡ false → (s : Status) → (cell (next_board p x)) ≡ s → pos 0 ≡ neg_ℤ (value_by s)
          at x quiet unwon (Ended g) e = refl
          at x quiet unwon (Open l b f) e = refl
          at x quiet unwon (Settled v d) e =
              let m = heard.all_notes x (next_board p x) v d quiet e in
              let low : gain_by m.0.kind m.0.gain <ℤ pos 1 = h.below (gain_by m.0.kind m.0.gain) (inr (m.0, m.1, refl)) in
              let won = small_gain m.0.kind m.0.gain (opened m.0 m.1) low in
              absurd (false≢true (sym unwon ∙ subst (λ y. is_won_at notes y ≡ true) m.2 (heard_won notes m.0 m.1 (ap is_won won))))
      plan (inr known) = at known.1
        where
          zero_is : known.0 ≡ pos 0
          zero_is = let b = h.below known.0 known.1 in let a = known.2 in omega (arith, ints, b, a)

          at : Knows value p notes known.0 → Plan
          at (inl k) = (k.0, k.1, k.2, k.3, inl (k.4, ap value_by is ∙ sym zero_is ∙ k.5), λ j. absurd (never j))
          at (inr m) = absurd (no_zero_gain m.0.kind m.0.gain (opened m.0 m.1) (sym m.2 ∙ zero_is))

  -- where all notes were heard at gain 1 a board is right
  pub quiet_right : IsRightAt value cell p
  quiet_right = at (cell p) refl heard.status
    where
      no_stones : (g : ℤ) → IsEnd p g → sum p < 1 → pos 0 ≡ g
      no_stones g end few = let none : sum p ≡ 0 = omega arith in sym (end.gains ∙ by (own_stones p == 0) (sum p) none)
        where
          by : (b : Bool) (k : ℕ) → k ≡ 0 → cond b (neg_ℤ (pos k)) (pos k) ≡ pos 0
          by true k e = ap (λ z. neg_ℤ (pos z)) e
          by false k e = ap pos e

      at : (s : Status) → (cell p) ≡ s → IsStatus value p notes 1 s → IsRightAt value cell p
      at (Ended gain) is h = right_ended gain h.0 (λ g end. ap value_by is ∙ no_stones g end h.1) (ap dist_by is)
      at (Open left best far) is h = right_open left best far is h.0 h.2
      at (Settled v d) is (inl ended) = right_ended v ended.0 (λ g end. ap value_by is ∙ ended.0.gains ∙ sym end.gains) (ap dist_by is ∙ ended.2)
      at (Settled v d) is (inr going) = right_settled v d is going.0 going.1
