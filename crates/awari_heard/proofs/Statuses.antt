-- What a note, and what the opening of a gain, makes of a status.
use Rattle.std.proofs.Common.{◌≡◌, ◌≢◌, ℕ, zero, suc, ◌+◌, ◌-◌, ◌<◌, ◌≤◌, ◌==◌, ◌⊎◌, inl, inr, Bool, true, false, not, ◌&&◌, ◌||◌, if◌then◌else◌, max, List, ◌∷◌, sum, ℤ, pos, neg_ℤ, ◌≤ℤ◌, ◌<ℤ◌, int_le, Option, Some, None, refl, sym, ap, subst, ◌∙◌, arith, eqb-true}
use Rattle.std.proofs.lemmas.Bool.Decides.{nat_tests}
use Rattle.std.proofs.lemmas.Bool.{and_parts, false≢true}
use Rattle.std.proofs.lemmas.Int.{ints, by_lt_z}
use Rattle.std.specs.Ordering.{int_eq}
use Rattle.awari_board.specs.Rules.{captured}
use Rattle.awari_block.specs.Notes.{IsQuietMove, Has, is_won, gain_by, is_heard_at, is_won_at, far_of}
use Rattle.awari_board.specs.Tests.{is_legal}
use Rattle.awari_block.specs.Plain.{Status, Ended, Open, Settled, is_left, left_of, Captures, IsBest, Knows, IsOpenAt, IsSettledAs, IsDistance, IsCount, IsPlain as IsStatus}
use Rattle.awari_block.specs.Steps.{is_best}
use Rattle.awari_heard.proofs.PlainSteps.{after_note, after_opening, is_at_most}
use Rattle.awari_block.specs.declared.notes.Note.{Note}
use Rattle.awari_block.specs.declared.notes.Kind.{Kind}
use Rattle.awari_block.specs.declared.notes.Kind.TheVariants.{Won, Lost}
use Rattle.awari_block.proofs.NoteLists.{unwon_at}
use Rattle.awari_block.proofs.SixPits.{count_by-one_less, count_by-none}
use Rattle.awari_block.proofs.Legality.{quiet_counted}
use Rattle.awari_block.proofs.Knowing.{int_eq-true, int_eq-false}

-- ---- a new note and the count of quiet moves

-- a Won note of a quiet move that was not heard leaves one quiet move less
left_of-won : (p : List ℕ) (notes : List Note) (m : Note) (q : List ℕ) → IsQuietMove p m.pit q → is_heard_at notes m.pit ≡ false → m.kind ≡ Won
    → left_of p notes ≡ left_of p (m ∷ notes) + 1
left_of-won p notes m q quiet unheard won =
    let fresh : is_won_at notes m.pit ≡ false = unwon_at notes m.pit unheard in
    let counted = quiet_counted p m.pit 0 q quiet refl in
    count_by-one_less (is_left p notes) (is_left p (m ∷ notes)) m.pit quiet.legal.own
    (left_at (is_legal p m.pit && (captured p m.pit == 0)) (is_won_at notes m.pit) counted fresh)
    (not_left (is_legal p m.pit && (captured p m.pit == 0)) (is_won_at notes m.pit) m.pit m.kind won)
    (λ y other. same (is_legal p y && (captured p y == 0)) (is_won_at notes y) m.pit y m.kind other)
  where
    left_at : (a b : Bool) → a ≡ true → b ≡ false → (a && not b) ≡ true
    left_at a b e f = grind arith

    not_left : (a b : Bool) (x : ℕ) (k : Kind) → k ≡ Won → (a && not (((x == x) && is_won k) || b)) ≡ false
    not_left a b x k e = subst (λ j. (a && not (((x == x) && is_won j) || b)) ≡ false) (sym e) (grind (arith, nat_tests))

    same : (a b : Bool) (x y : ℕ) (k : Kind) → y ≢ x → (a && not (((x == y) && is_won k) || b)) ≡ (a && not b)
    same a b x y k other = grind (arith, nat_tests)

-- a quiet move that was not heard is still left
left_of-unheard : (p : List ℕ) (notes : List Note) (x : ℕ) (q : List ℕ) → IsQuietMove p x q → is_heard_at notes x ≡ false → left_of p notes ≡ 0 → ⊥
left_of-unheard p notes x q quiet unheard none =
    clash (is_legal p x && (captured p x == 0)) (is_won_at notes x) (quiet_counted p x 0 q quiet refl) (unwon_at notes x unheard)
    (count_by-none (is_left p notes) none x quiet.legal.own)
  where
    clash : (a b : Bool) → a ≡ true → b ≡ false → (a && not b) ≡ false → ⊥
    clash a b e f g = grind arith

-- ---- a new note and the farthest

far_of-new_won : (notes : List Note) (m : Note) → m.kind ≡ Won → max m.dist (far_of notes) ≡ far_of (m ∷ notes)
far_of-new_won notes m won = subst (λ k. max m.dist (far_of notes) ≡ (if is_won k then max m.dist (far_of notes) else far_of notes)) (sym won) refl

-- ---- gains

gain_by-won : (k : Kind) (g : ℕ) → k ≡ Won → gain_by k g ≡ neg_ℤ (pos g)
gain_by-won k g e = ap (λ j. gain_by j g) e

gain_by-lost : (k : Kind) (g : ℕ) → k ≡ Lost → gain_by k g ≡ pos g
gain_by-lost k g e = ap (λ j. gain_by j g) e

-- a gain of at least t that is below t is that of a Won note
low_gain : (k : Kind) (g t : ℕ) → t ≤ g → gain_by k g <ℤ pos t → gain_by k g ≤ℤ neg_ℤ (pos t)
low_gain Won g t h low = omega (arith, ints)
low_gain Lost g t h low = omega (arith, ints)

positive_gain : (k : Kind) (g : ℕ) → pos 0 <ℤ gain_by k g → gain_by k g ≡ pos g
positive_gain Won g h = omega (arith, ints)
positive_gain Lost g h = refl

-- ---- what is known with one note more

more_known : (value : List ℕ → ℤ) (p : List ℕ) (notes : List Note) (m : Note) (v : ℤ) → Knows value p notes v → Knows value p (m ∷ notes) v
more_known value p notes m v (inl capture) = inl capture
more_known value p notes m v (inr note) = inr (note.0, inr note.1, note.2)

-- what is known is known without the note, or it is the note's gain
known_before : (value : List ℕ → ℤ) (p : List ℕ) (notes : List Note) (m : Note) (v : ℤ) → Knows value p (m ∷ notes) v
    → Knows value p notes v ⊎ (v ≡ gain_by m.kind m.gain)
known_before value p notes m v (inl capture) = inl (inl capture)
known_before value p notes m v (inr note) = at note.1
  where
    at : (note.0 ≡ m) ⊎ Has notes note.0 → Knows value p notes v ⊎ (v ≡ gain_by m.kind m.gain)
    at (inl e) = inr (note.2 ∙ ap (λ (k : Note). gain_by k.kind k.gain) e)
    at (inr has) = inl (inr (note.0, has, note.2))

-- a bound on what is known
known_most : (value : List ℕ → ℤ) (p : List ℕ) (notes : List Note) (m : Note) (v : ℤ) → ((u : ℤ) → Knows value p notes u → u ≤ℤ v) → gain_by m.kind m.gain ≤ℤ v
    → (u : ℤ) → Knows value p (m ∷ notes) u → u ≤ℤ v
known_most value p notes m v most low u known =
    elim (known_before value p notes m u known) [ inl before ↦ most u before | inr e ↦ subst (λ z. z ≤ℤ v) (sym e) low ]

known_below : (value : List ℕ → ℤ) (p : List ℕ) (notes : List Note) (m : Note) (v : ℤ) → ((u : ℤ) → Knows value p notes u → u <ℤ v) → gain_by m.kind m.gain <ℤ v
    → (u : ℤ) → Knows value p (m ∷ notes) u → u <ℤ v
known_below value p notes m v most low u known =
    elim (known_before value p notes m u known) [ inl before ↦ most u before | inr e ↦ subst (λ z. z <ℤ v) (sym e) low ]

int_le-true : (a b : ℤ) → int_le a b ≡ true → a ≤ℤ b
int_le-true a b e = grind (arith, ints, nat_tests)

int_le-false : (a b : ℤ) → int_le a b ≡ false → b <ℤ a
int_le-false a b e = grind (arith, ints, nat_tests)

-- where all that is known is below t and the notes' gains are not, all that is known is at most the best capture or -t
known_low : (value : List ℕ → ℤ) (p : List ℕ) (notes : List Note) (t : ℕ) (best : Option ℤ) (low : ℤ) → ((m : Note) → Has notes m → t ≤ m.gain) → IsBest value p best
    → ((u : ℤ) → Knows value p notes u → u <ℤ pos t) → is_at_most best low ≡ true → neg_ℤ (pos t) ≤ℤ low
    → (u : ℤ) → Knows value p notes u → u ≤ℤ low
known_low value p notes t None low gains none below test least u (inl capture) = absurd (none u capture)
known_low value p notes t (Some best) low gains some below test least u (inl capture) =
    let a = some.1 u capture in let b = int_le-true best low test in omega (arith, ints)
known_low value p notes t best low gains some below test least u (inr note) =
    let a = low_gain note.0.kind note.0.gain t (gains note.0 note.1) (subst (λ z. z <ℤ pos t) note.2 (below u (inr note))) in
    subst (λ z. z ≤ℤ low) (sym note.2) (omega (arith, ints, a))

-- ---- a new note and the status

-- a note is of a quiet move that was not heard, of the open gain and wave
pub record IsNew (p : List ℕ) (notes : List Note) (t w : ℕ) (m : Note) : Type 0 where
  pub quiet : (q : List ℕ) × IsQuietMove p m.pit q
  pub unheard : is_heard_at notes m.pit ≡ false
  pub gained : m.gain ≡ t
  pub waved : m.dist ≡ w

-- an open board that hears of a lost one
open_lost : (value : List ℕ → ℤ) (p : List ℕ) (notes : List Note) (t : ℕ) (m : Note) → 1 ≤ t → m.kind ≡ Lost → m.gain ≡ t
    → ((u : ℤ) → Knows value p notes u → u <ℤ pos t) → IsSettledAs value p (m ∷ notes) t (pos t) (m.dist + 1)
open_lost value p notes t m one lost gained below =
    let gain : gain_by m.kind m.gain ≡ pos t = gain_by-lost m.kind m.gain lost ∙ ap pos gained in
    record {
      known = inr (m, inl refl, sym gain);
      most = known_most value p notes m (pos t) (λ u k. let b = below u k in omega (arith, ints)) (subst (λ z. z ≤ℤ pos t) (sym gain) (omega (arith, ints)));
      reached = inl (omega (arith, ints));
      distance = inr (inl (omega (arith, ints), (λ capture. let b = below (pos t) (inl capture) in absurd (omega (arith, ints))), (m, inl refl, gain, refl, least)));
    }
  where
    least : (k : Note) → Has (m ∷ notes) k → gain_by k.kind k.gain ≡ pos t → m.dist ≤ k.dist
    least k (inl e) same = subst (λ (j : Note). m.dist ≤ j.dist) (sym e) (omega arith)
    least k (inr has) same = absurd (let b = below (gain_by k.kind k.gain) (inr (k, has, refl)) in let c = subst (λ z. z <ℤ pos t) same b in omega (arith, ints, c))

-- an open board that hears of a won one, the last quiet move, and no capture gains more
last_won : (value : List ℕ → ℤ) (p : List ℕ) (notes : List Note) (t w : ℕ) (m : Note) (left : ℕ) (best : Option ℤ) (far : ℕ) → 1 ≤ t → IsNew p notes t w m → m.kind ≡ Won
    → ((k : Note) → Has notes k → t ≤ k.gain) → IsCount value p notes left best far → ((u : ℤ) → Knows value p notes u → u <ℤ pos t)
    → left ≡ 1 → is_at_most best (neg_ℤ (pos t)) ≡ true
    → IsSettledAs value p (m ∷ notes) t (neg_ℤ (pos t)) (max m.dist far + 1)
last_won value p notes t w m left best far one fresh won opened counts below last low =
    let gain : gain_by m.kind m.gain ≡ neg_ℤ (pos t) = gain_by-won m.kind m.gain won ∙ ap (λ g. neg_ℤ (pos g)) fresh.gained in
    let fewer = left_of-won p notes m fresh.quiet.0 fresh.quiet.1 fresh.unheard won in
    let farther = ap (λ f. max m.dist f) counts.farthest ∙ far_of-new_won notes m won in
    record {
      known = inr (m, inl refl, sym gain);
      most = known_most value p notes m (neg_ℤ (pos t)) (known_low value p notes t best (neg_ℤ (pos t)) opened counts.best_capture below low (omega (arith, ints)))
          (subst (λ z. z ≤ℤ neg_ℤ (pos t)) (sym gain) (omega (arith, ints)));
      reached = inr (omega (arith, ints), omega (arith, fewer, counts.quiet_left));
      distance = inr (inr (omega (arith, ints), ap (λ f. f + 1) farther));
    }

-- an open board that hears of a won one, and stays open
still_open : (value : List ℕ → ℤ) (p : List ℕ) (notes : List Note) (t w : ℕ) (m : Note) (left : ℕ) (best : Option ℤ) (far : ℕ) → 1 ≤ t → IsNew p notes t w m → m.kind ≡ Won
    → IsCount value p notes left best far → ((u : ℤ) → Knows value p notes u → u <ℤ pos t)
    → ((left == 1) && is_at_most best (neg_ℤ (pos t))) ≡ false
    → IsCount value p (m ∷ notes) (left - 1) best (max m.dist far) × IsOpenAt value p (m ∷ notes) t
still_open value p notes t w m left best far one fresh won counts below test =
    let gain : gain_by m.kind m.gain ≡ neg_ℤ (pos t) = gain_by-won m.kind m.gain won ∙ ap (λ g. neg_ℤ (pos g)) fresh.gained in
    let fewer = left_of-won p notes m fresh.quiet.0 fresh.quiet.1 fresh.unheard won in (
      record {
        quiet_left = omega (arith, fewer, counts.quiet_left);
        best_capture = counts.best_capture;
        farthest = ap (λ f. max m.dist f) counts.farthest ∙ far_of-new_won notes m won;
      },
      record {
        below = known_below value p notes m (pos t) below (subst (λ z. z <ℤ pos t) (sym gain) (omega (arith, ints)));
        above = more (left_of p (m ∷ notes)) best (omega (arith, fewer, counts.quiet_left)) counts.best_capture test;
      },
    )
  where
    more : (rest : ℕ) (best : Option ℤ) → left ≡ rest + 1 → IsBest value p best → ((left == 1) && is_at_most best (neg_ℤ (pos t))) ≡ false
        → (0 < rest) ⊎ ((v : ℤ) × Knows value p (m ∷ notes) v × (neg_ℤ (pos t) <ℤ v))
    more (suc rest) best e is test = inl (omega arith)
    more zero None e is test = absurd (let one : left ≡ 1 = e ∙ omega arith in let no : ((1 == 1) && true) ≡ false = subst (λ l. ((l == 1) && true) ≡ false) one test in false≢true (sym no))
    more zero (Some b) e is test =
        let one : left ≡ 1 = e ∙ omega arith in
        let high : int_le b (neg_ℤ (pos t)) ≡ false = subst (λ l. ((l == 1) && int_le b (neg_ℤ (pos t))) ≡ false) one test in
        inr (b, inl is.0, int_le-false b (neg_ℤ (pos t)) high)

-- the distance of a settled board stays with a note of the open gain t and distance w
same_distance : (value : List ℕ → ℤ) (p : List ℕ) (notes : List Note) (t w : ℕ) (m : Note) (v : ℤ) (dist : ℕ) → 1 ≤ t → pos t ≤ℤ v → m.gain ≡ t → m.dist ≡ w
    → ((k : Note) → Has notes k → k.gain ≡ t → k.dist ≤ w) → gain_by m.kind m.gain ≤ℤ pos t
    → IsDistance value p notes v dist → IsDistance value p (m ∷ notes) v dist
same_distance value p notes t w m v dist one reached gained waved near low (inl capture) = inl capture
same_distance value p notes t w m v dist one reached gained waved near low (inr (inl note)) =
    let k = note.2.0 in
    inr (inl (note.0, note.1, (k, inr note.2.1, note.2.2, note.2.3, least)))
  where
    no_nearer : gain_by m.kind m.gain ≡ v → note.2.0.dist ≤ m.dist
    no_nearer same =
        let at_t : v ≡ pos t = omega (arith, ints, same) in
        let old : gain_by note.2.0.kind note.2.0.gain ≡ pos t = note.2.2 ∙ at_t in
        let positive = positive_gain note.2.0.kind note.2.0.gain (omega (arith, ints, old)) in
        let g : note.2.0.gain ≡ t = omega (arith, ints, old, positive) in
        let n = near note.2.0 note.2.1 g in omega (arith, n)

    least : (j : Note) → Has (m ∷ notes) j → gain_by j.kind j.gain ≡ v → note.2.0.dist ≤ j.dist
    least j (inl e) same = subst (λ (i : Note). note.2.0.dist ≤ i.dist) (sym e) (no_nearer (subst (λ (i : Note). gain_by i.kind i.gain ≡ v) e same))
    least j (inr has) same = note.2.4 j has same
same_distance value p notes t w m v dist one reached gained waved near low (inr (inr lost)) = let l = lost.0 in absurd (omega (arith, ints, l))

gain_by-most : (k : Kind) (g : ℕ) → gain_by k g ≤ℤ pos g
gain_by-most Won g = omega (arith, ints)
gain_by-most Lost g = omega (arith, ints)

-- a settled board that hears of another stays settled
still_settled : (value : List ℕ → ℤ) (p : List ℕ) (notes : List Note) (t w : ℕ) (m : Note) (v : ℤ) (dist : ℕ) → 1 ≤ t → IsNew p notes t w m
    → ((k : Note) → Has notes k → k.gain ≡ t → k.dist ≤ w) → IsSettledAs value p notes t v dist → IsSettledAs value p (m ∷ notes) t v dist
still_settled value p notes t w m v dist one fresh near s = at s.reached
  where
    low : gain_by m.kind m.gain ≤ℤ pos t
    low = subst (λ g. gain_by m.kind m.gain ≤ℤ pos g) fresh.gained (gain_by-most m.kind m.gain)

    at : (pos t ≤ℤ v) ⊎ ((v ≤ℤ neg_ℤ (pos t)) × (left_of p notes ≡ 0)) → IsSettledAs value p (m ∷ notes) t v dist
    at (inl reached) = record {
      known = more_known value p notes m v s.known;
      most = known_most value p notes m v s.most (omega (arith, ints, low));
      reached = inl reached;
      distance = same_distance value p notes t w m v dist one reached fresh.gained fresh.waved near low s.distance;
    }
    at (inr lost) = absurd (left_of-unheard p notes m.pit fresh.quiet.0 fresh.quiet.1 fresh.unheard lost.1)

-- what a note makes of the status
pub note_status : (value : List ℕ → ℤ) (p : List ℕ) (notes : List Note) (t w : ℕ) (m : Note) (s : Status) → 1 ≤ t → IsNew p notes t w m
    → ((k : Note) → Has notes k → t ≤ k.gain) → ((k : Note) → Has notes k → k.gain ≡ t → k.dist ≤ w)
    → IsStatus value p notes t s → IsStatus value p (m ∷ notes) t (after_note s m.kind t m.dist)
note_status value p notes t w m (Ended gain) one fresh opened near h = absurd (h.0.stuck m.pit fresh.quiet.1.legal)
note_status value p notes t w m (Settled v dist) one fresh opened near (inl ended) = absurd (ended.0.stuck m.pit fresh.quiet.1.legal)
note_status value p notes t w m (Settled v dist) one fresh opened near (inr going) =
    inr (going.0, still_settled value p notes t w m v dist one fresh near going.1)
note_status value p notes t w m (Open left best far) one fresh opened near h = by_kind m.kind refl
  where
    by_kind : (k : Kind) → m.kind ≡ k → IsStatus value p (m ∷ notes) t (after_note (Open left best far) k t m.dist)
    by_kind Lost e = inr (h.0, open_lost value p notes t m one e fresh.gained h.2.below)
    by_kind Won e = by_test ((left == 1) && is_at_most best (neg_ℤ (pos t))) refl
      where
        by_test : (b : Bool) → ((left == 1) && is_at_most best (neg_ℤ (pos t))) ≡ b
            → IsStatus value p (m ∷ notes) t (if b then Settled (neg_ℤ (pos t)) (max m.dist far + 1) else Open (left - 1) best (max m.dist far))
        by_test true test =
            let parts = and_parts (left == 1) (is_at_most best (neg_ℤ (pos t))) test in
            inr (h.0, last_won value p notes t w m left best far one fresh e opened h.1 h.2.below (eqb-true left 1 parts.0) parts.1)
        by_test false test = let rest = still_open value p notes t w m left best far one fresh e h.1 h.2.below test in (h.0, rest.0, rest.1)

-- ---- the opening of a gain

-- no note has the gain that is opened
no_gain : (k : Kind) (g t : ℕ) → t + 1 ≤ g → gain_by k g <ℤ pos (t + 1) → gain_by k g <ℤ neg_ℤ (pos t)
no_gain Won g t h low = omega (arith, ints)
no_gain Lost g t h low = omega (arith, ints)

module _ (value : List ℕ → ℤ) (p : List ℕ) (notes : List Note) (t : ℕ) (one : 1 ≤ t) (gains : (m : Note) → Has notes m → t + 1 ≤ m.gain) where
  -- what is known is gained by a capture, or is below -t
  known_cases : ((u : ℤ) → Knows value p notes u → u <ℤ pos (t + 1)) → (u : ℤ) → Knows value p notes u → Captures value p u ⊎ (u <ℤ neg_ℤ (pos t))
  known_cases below u (inl capture) = inl capture
  known_cases below u (inr note) =
      inr (subst (λ z. z <ℤ neg_ℤ (pos t)) (sym note.2) (no_gain note.0.kind note.0.gain t (gains note.0 note.1) (subst (λ z. z <ℤ pos (t + 1)) note.2 (below u (inr note)))))

  -- the best capture gains v, and v is at least -t
  opens_at : (left : ℕ) (b : ℤ) (far : ℕ) (v : ℤ) (dist : ℕ) → IsCount value p notes left (Some b) far → ((u : ℤ) → Knows value p notes u → u <ℤ pos (t + 1)) → b ≡ v
      → neg_ℤ (pos t) ≤ℤ v → (pos t ≤ℤ v) ⊎ ((v ≤ℤ neg_ℤ (pos t)) × (left_of p notes ≡ 0)) → IsDistance value p notes v dist → IsSettledAs value p notes t v dist
  opens_at left b far v dist counts below same least reached distance = record {
    known = inl (subst (λ z. Captures value p z) same counts.best_capture.0);
    most = λ u known. elim (known_cases below u known) [
      | inl capture ↦ subst (λ z. u ≤ℤ z) same (counts.best_capture.1 u capture)
      | inr low ↦ omega (arith, ints)
    ];
    reached = reached;
    distance = distance;
  }

  -- the board stays open
  stays_open : (left : ℕ) (best : Option ℤ) (far : ℕ) → IsCount value p notes left best far → IsOpenAt value p notes (t + 1)
      → is_best best (pos t) ≡ false → ((left == 0) && is_best best (neg_ℤ (pos t))) ≡ false → IsOpenAt value p notes t
  stays_open left None far counts h top bottom = record {
    below = λ u known. elim (known_cases h.below u known) [ inl capture ↦ absurd (counts.best_capture u capture) | inr low ↦ omega (arith, ints) ];
    above = elim h.above [
      | inl more ↦ inl more
      | inr some ↦ absurd (elim (known_cases h.below some.0 some.1) [ inl capture ↦ counts.best_capture some.0 capture | inr low ↦ let s = some.2 in omega (arith, ints) ])
    ];
  }
  stays_open left (Some b) far counts h top bottom = record {
    below = λ u known. elim (known_cases h.below u known) [
      | inl capture ↦ (let a = counts.best_capture.1 u capture in let b_low = h.below b (inl counts.best_capture.0) in let not_t = int_eq-false b (pos t) top in below_t b u a b_low not_t)
      | inr low ↦ omega (arith, ints)
    ];
    above = by_left left counts.quiet_left bottom;
  }
    where
      below_t : (b u : ℤ) → u ≤ℤ b → b <ℤ pos (t + 1) → (b ≡ pos t → ⊥) → u <ℤ pos t
      below_t b u a low other = by_lt_z b (pos t) (λ lt. omega (arith, ints)) (λ ge. absurd (other (omega (arith, ints))))

      above_t : (b u : ℤ) → u ≤ℤ b → neg_ℤ (pos (t + 1)) <ℤ u → (b ≡ neg_ℤ (pos t) → ⊥) → neg_ℤ (pos t) <ℤ b
      above_t b u a low other = by_lt_z (neg_ℤ (pos t)) b (λ lt. lt) (λ ge. absurd (other (omega (arith, ints))))

      by_left : (left : ℕ) → left ≡ left_of p notes → ((left == 0) && int_eq b (neg_ℤ (pos t))) ≡ false
          → (0 < left_of p notes) ⊎ ((v : ℤ) × Knows value p notes v × (neg_ℤ (pos t) <ℤ v))
      by_left (suc left) e test = inl (omega arith)
      by_left zero e test = elim h.above [
        | inl more ↦ inl more
        | inr some ↦ elim (known_cases h.below some.0 some.1) [
          | inl capture ↦ inr (b, inl counts.best_capture.0, above_t b some.0 (counts.best_capture.1 some.0 capture) some.2 (int_eq-false b (neg_ℤ (pos t)) test))
          | inr low ↦ (let s = some.2 in absurd (omega (arith, ints)))
        ]
      ]

  -- what the opening of gain t makes of the status
  pub opening_status : (s : Status) → IsStatus value p notes (t + 1) s → IsStatus value p notes t (after_opening s (sum p) t)
  opening_status (Ended gain) h = by_test (t == sum p) refl
    where
      eqb_same : (a b : ℕ) → a ≡ b → (a == b) ≡ true
      eqb_same a b e = grind (arith, nat_tests)

      by_test : (b : Bool) → (t == sum p) ≡ b → IsStatus value p notes t (if b then Settled gain 0 else Ended gain)
      by_test true e = inl (h.0, omega (arith, eqb-true t (sum p) e), refl)
      by_test false e = (h.0, (let ne : t ≢ sum p = λ same. false≢true (sym e ∙ eqb_same t (sum p) same) in omega (arith, h.1)))
  opening_status (Settled v dist) (inl ended) = inl (ended.0, omega (arith, ended.1), ended.2)
  opening_status (Settled v dist) (inr going) = inr (
    going.0,
    record {
      known = going.1.known;
      most = going.1.most;
      reached = elim going.1.reached [ inl high ↦ inl (omega (arith, ints)) | inr low ↦ inr ((let l = low.0 in omega (arith, ints)), low.1) ];
      distance = going.1.distance;
    },
  )
  opening_status (Open left best far) h = by_top (is_best best (pos t)) refl
    where
      by_bottom : (b : Bool) → is_best best (pos t) ≡ false → ((left == 0) && is_best best (neg_ℤ (pos t))) ≡ b
          → IsStatus value p notes t (if b then Settled (neg_ℤ (pos t)) (far + 1) else Open left best far)
      by_bottom false top test = (h.0, h.1, stays_open left best far h.1 h.2 top test)
      by_bottom true top test =
          let parts = and_parts (left == 0) (is_best best (neg_ℤ (pos t))) test in
          inr (h.0, at best h.1 parts.1 (eqb-true left 0 parts.0))
        where
          at : (best : Option ℤ) → IsCount value p notes left best far → is_best best (neg_ℤ (pos t)) ≡ true → left ≡ 0 → IsSettledAs value p notes t (neg_ℤ (pos t)) (far + 1)
          at None counts e none = absurd (false≢true e)
          at (Some b) counts e none =
              opens_at left b far (neg_ℤ (pos t)) (far + 1) counts h.2.below (int_eq-true b (neg_ℤ (pos t)) e) (omega (arith, ints))
              (inr (omega (arith, ints), omega (arith, counts.quiet_left))) (inr (inr (omega (arith, ints), ap (λ f. f + 1) counts.farthest)))

      by_top : (b : Bool) → is_best best (pos t) ≡ b
          → IsStatus value p notes t (if b then Settled (pos t) 1 else (if (left == 0) && is_best best (neg_ℤ (pos t)) then Settled (neg_ℤ (pos t)) (far + 1) else Open left best far))
      by_top false top = by_bottom ((left == 0) && is_best best (neg_ℤ (pos t))) top refl
      by_top true top = inr (h.0, at best h.1 top)
        where
          at : (best : Option ℤ) → IsCount value p notes left best far → is_best best (pos t) ≡ true → IsSettledAs value p notes t (pos t) 1
          at None counts e = absurd (false≢true e)
          at (Some b) counts e =
              let same = int_eq-true b (pos t) e in
              opens_at left b far (pos t) 1 counts h.2.below same (omega (arith, ints)) (inl (omega (arith, ints)))
              (inl (omega (arith, ints), subst (λ z. Captures value p z) same counts.best_capture.0, refl))
