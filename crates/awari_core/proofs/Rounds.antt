-- What is done with all parts, one after the other.
use Rattle.std.proofs.Common.{◌≡◌, ℕ, ◌+◌, ◌<◌, ◌≤◌, ◌⊎◌, ◌==◌, inl, inr, Bool, true, false, min, max, Option, Some, None, IfSome, List, [], ◌∷◌, ◌++◌, All, Any, length, get_or, set, sym, ap, subst, subst₂, ◌∙◌, arith, get_or-set_same, get_or-set_other, eqb-true}
use Rattle.std.specs.Option.{option_eq}
use Rattle.std.specs.Prelude.{nat_eq}
use Rattle.std.proofs.lemmas.Bool.{cases_eq, cases_lt, eq-eqb}
use Rattle.std.proofs.lemmas.List.{get_or_default, get_or_push, get_or_append_left}
use Rattle.std.proofs.lemmas.List.Elements.{All-nil}
use Rattle.awari_table.specs.Images.{table_of}
use Rattle.awari_block.specs.Blocks.{Due, due_dist, nearer_of}
use Rattle.awari_owner.specs.Owners.{AreInStep, AreSound}
use Rattle.awari_heard.specs.Level.{no_part}
use Rattle.awari_owner.specs.Sound.{KeepsHeard, OpensGain, OpensWave}
use Rattle.awari_block.specs.Part.{Part, IsLeastDue}
use Rattle.awari_owner.proofs.Sounding.{gain_opened, wave_opened}
use Rattle.awari_core.specs.Core.{Core, IsAllTaken, IsLeastOf, IsLinked, IsAllQuiet, IsWaveDone, Sound, coming, owner_part, sender_at}
use Rattle.awari_core.proofs.Sounding.{opened_sound}
use Rattle.awari_core.proofs.Telling.{nothing_comes}

-- ---- one element after the other

pub more_set : {X : Type 0} (P : ℕ → X → Type 0) (items : List X) (none : X) (i : ℕ) (x : X) → i < length items → ((k : ℕ) → k < i → P k (get_or items k none)) → P i x
    → (k : ℕ) → k < i + 1 → P k (get_or (set items i x) k none)
more_set P items none i x high before here k less = elim (cases_eq k i) [
  | inl same ↦ subst (λ j. P j (get_or (set items i x) j none)) (sym same) (subst (P i) (sym (get_or-set_same items i x none high)) here)
  | inr apart ↦ subst (P k) (sym (get_or-set_other items i k x none apart)) (before k (omega (arith, less, apart)))
]

pub later_set : {X : Type 0} (items old : List X) (none : X) (i : ℕ) (x : X) → ((k : ℕ) → i ≤ k → get_or items k none ≡ get_or old k none)
    → (k : ℕ) → i + 1 ≤ k → get_or (set items i x) k none ≡ get_or old k none
later_set items old none i x later k less = get_or-set_other items i k x none (λ e. absurd (omega (arith, less, e))) ∙ later k (omega (arith, less))

pub more_push : {X : Type 0} (P : ℕ → X → Type 0) (items : List X) (none x : X) (i : ℕ) → length items ≡ i → ((k : ℕ) → k < i → P k (get_or items k none)) → P i x
    → (k : ℕ) → k < i + 1 → P k (get_or (items ++ x ∷ []) k none)
more_push P items none x i count before here k less = elim (cases_eq k i) [
  | inl same ↦ subst (λ j. P j (get_or (items ++ x ∷ []) j none)) (sym same) (subst (P i) (sym (get_or_push items x none i count)) here)
  | inr apart ↦ let low : k < length items = omega (arith, less, apart, count) in subst (P k) (sym (get_or_append_left items (x ∷ []) none k low)) (before k (omega (arith, less, apart)))
]

-- what holds of each holds of all
pub all_below : {X : Type 0} (P : X → Type 0) (items : List X) (none : X) → ((k : ℕ) → k < length items → P (get_or items k none)) → All P items
all_below P items none each k d low = subst P (get_or_default items k none d low) (each k low)

-- ---- a gain or a distance more

-- all parts with the next one open, with nothing on its way, are sound
pub sound_opened : (old : Core) (gain : ℕ) (parts : List Part) → Sound old → IsAllTaken old → length parts ≡ length old.parts
    → ((i : ℕ) → i < length old.parts → KeepsHeard (owner_part old i) (get_or parts i no_part)) → AreInStep (length old.parts) (λ i. get_or parts i no_part) → (get_or parts 0 no_part).gain ≡ max 1 gain
    → Sound (record old { gain = gain; parts = parts })
sound_opened old gain parts sound taken count opened step first = record {
  shelf = sound.shelf;
  low = sound.low;
  some = (let s = sound.some in omega (arith, count, s));
  few = (let f = sound.few in omega (arith, count, f));
  senders = sound.senders ∙ sym count;
  linked = subst (λ n. (i : ℕ) → i < n → IsLinked n old.room i (sender_at old i)) (sym count) sound.linked;
  gain = first;
  taken = sound.taken;
  sound = subst (λ n. AreSound (table_of old.shelf).value (length old.shelf) n (λ i. get_or parts i no_part) (coming old) sound.taken) (sym count)
      (opened_sound (table_of old.shelf).value (length old.shelf) (length old.parts) (owner_part old) (λ i. get_or parts i no_part) (coming old) sound.taken sound.sound
      (λ i j low low' apart. nothing_comes old taken i j (let s = sound.senders in omega (arith, low, s))) opened step);
}

pub sound_gain : (old : Core) (t : ℕ) (parts : List Part) → Sound old → IsAllQuiet old → 1 ≤ t → length parts ≡ length old.parts
    → ((i : ℕ) → i < length old.parts → OpensGain t (owner_part old i) (get_or parts i no_part)) → Sound (record old { gain = t; parts = parts })
sound_gain old t parts sound quiet some count opens = sound_opened old t parts sound quiet.1 count (λ i low. gain_opened t (owner_part old i) (get_or parts i no_part) (opens i low)) (record {
  gain = λ i low. (opens i low).settles.same.gain ∙ sym (opens 0 sound.some).settles.same.gain;
  wave = λ i low. (opens i low).settles.same.wave ∙ sym (opens 0 sound.some).settles.same.wave;
}) ((opens 0 sound.some).settles.same.gain ∙ top t some)
  where
    top : (t : ℕ) → 1 ≤ t → t ≡ max 1 t
    top t some = omega (arith, some)

pub sound_wave : (old : Core) (dist : ℕ) (parts : List Part) → Sound old → IsAllTaken old → length parts ≡ length old.parts
    → ((i : ℕ) → i < length old.parts → OpensWave dist (owner_part old i) (get_or parts i no_part)) → Sound (record old { parts = parts })
sound_wave old dist parts sound taken count opens = sound_opened old old.gain parts sound taken count (λ i low. wave_opened dist (owner_part old i) (get_or parts i no_part) (opens i low)) (record {
  gain = λ i low. ap (λ (p : Part). p.gain) (opens i low).wave ∙ sound.sound.step.gain i low ∙ sym (ap (λ (p : Part). p.gain) (opens 0 sound.some).wave);
  wave = λ i low. ap (λ (p : Part). p.wave) (opens i low).wave ∙ sym (ap (λ (p : Part). p.wave) (opens 0 sound.some).wave);
}) (ap (λ (p : Part). p.gain) (opens 0 sound.some).wave ∙ sound.gain)

-- ---- the least distance

-- of one part more
pub least_more : (parts : List Part) (count : ℕ) (p : Part) (a b least : Option ℕ) → get_or parts count no_part ≡ p → IsLeastOf parts count a → IsLeastDue p b → least ≡ nearer_of a b → IsLeastOf parts (count + 1) least
least_more parts count p None None least at before here near = subst (IsLeastOf parts (count + 1)) (sym near) (λ i low. elim (cases_eq i count) [
  | inl same ↦ ap (λ j. (get_or parts j no_part).fresh) same ∙ ap (λ (o : Part). o.fresh) at ∙ here
  | inr apart ↦ before i (omega (arith, low, apart))
])
least_more parts count p (Some a) None least at before here near = subst (IsLeastOf parts (count + 1)) (sym near) (
  (before.0.0, (let low = before.0.1 in omega (arith, low)), before.0.2),
  λ i low. elim (cases_eq i count) [
    | inl same ↦ subst (All (λ f. a ≤ due_dist f)) (sym (ap (λ j. (get_or parts j no_part).fresh) same ∙ ap (λ (o : Part). o.fresh) at ∙ here)) (All-nil (λ f. a ≤ due_dist f))
    | inr apart ↦ before.1 i (omega (arith, low, apart))
  ],
)
least_more parts count p None (Some b) least at before here near = subst (IsLeastOf parts (count + 1)) (sym near) (
  (count, omega arith, subst (λ (o : Part). Any (λ f. due_dist f ≡ b) o.fresh) (sym at) here.0),
  λ i low. elim (cases_eq i count) [
    | inl same ↦ subst (λ (o : Part). All (λ f. b ≤ due_dist f) o.fresh) (sym (ap (λ j. get_or parts j no_part) same ∙ at)) here.1
    | inr apart ↦ subst (All (λ f. b ≤ due_dist f)) (sym (before i (omega (arith, low, apart)))) (All-nil (λ f. b ≤ due_dist f))
  ],
)
least_more parts count p (Some a) (Some b) least at before here near = subst (IsLeastOf parts (count + 1)) (sym near) (first (cases_lt a b), all)
  where
    first : (a < b) ⊎ (b ≤ a) → (i : ℕ) × (i < count + 1) × Any (λ f. due_dist f ≡ min a b) (get_or parts i no_part).fresh
    first (inl less) = (before.0.0, (let low = before.0.1 in omega (arith, low)), subst (λ d. Any (λ f. due_dist f ≡ d) (get_or parts before.0.0 no_part).fresh) (low_first a b less) before.0.2)
      where
        low_first : (a b : ℕ) → a < b → a ≡ min a b
        low_first a b less = omega (arith, less)
    first (inr more) = (count, omega arith, subst₂ (λ (o : Part) (d : ℕ). Any (λ f. due_dist f ≡ d) o.fresh) (sym at) (low_second a b more) here.0)
      where
        low_second : (a b : ℕ) → b ≤ a → b ≡ min a b
        low_second a b more = omega (arith, more)

    lower : (d : ℕ) (fresh : List Due) → (min a b ≤ d) → All (λ f. d ≤ due_dist f) fresh → All (λ f. min a b ≤ due_dist f) fresh
    lower d fresh under are k e low = let more = are k e low in omega (arith, more, under)

    all : (i : ℕ) → i < count + 1 → All (λ f. min a b ≤ due_dist f) (get_or parts i no_part).fresh
    all i low = elim (cases_eq i count) [
      | inl same ↦ lower b (get_or parts i no_part).fresh (omega arith) (subst (λ (o : Part). All (λ f. b ≤ due_dist f) o.fresh) (sym (ap (λ j. get_or parts j no_part) same ∙ at)) here.1)
      | inr apart ↦ lower a (get_or parts i no_part).fresh (omega arith) (before.1 i (omega (arith, low, apart)))
    ]

-- a bound of both is one of the lesser
pub nearer_bound : (a b least : Option ℕ) (w : ℕ) → IfSome a (λ d. w ≤ d) → IfSome b (λ d. w ≤ d) → least ≡ nearer_of a b → IfSome least (λ d. w ≤ d)
nearer_bound None b least w one other near = subst (λ (o : Option ℕ). IfSome o (λ d. w ≤ d)) (sym near) other
nearer_bound (Some a) None least w one other near = subst (λ (o : Option ℕ). IfSome o (λ d. w ≤ d)) (sym near) one
nearer_bound (Some a) (Some b) least w one other near = subst (λ (o : Option ℕ). IfSome o (λ d. w ≤ d)) (sym near) (let l : w ≤ min a b = omega (arith, one, other) in l)

-- ---- whether a fresh board is of the open wave

pub same_dist : (o : Option ℕ) (w : ℕ) → option_eq nat_eq o (Some w) ≡ true → o ≡ Some w
same_dist None w e = absurd cc
same_dist (Some d) w e = ap Some (eqb-true d w e)

pub other_dist : (o : Option ℕ) (d w : ℕ) → o ≡ Some d → option_eq nat_eq o (Some w) ≡ false → d ≡ w → ⊥
other_dist o d w is e same = differs (d == w) (eq-eqb d w same) (ap (λ (p : Option ℕ). option_eq nat_eq p (Some w)) (sym is) ∙ e)
  where
    differs : (b : Bool) → b ≡ true → b ≡ false → ⊥
    differs b t f = absurd cc

pub wave_due : (core : Core) (w : ℕ) → IsLeastOf core.parts (length core.parts) (Some w) → ((i : ℕ) → i < length core.parts → w ≡ (owner_part core i).wave) → IsWaveDone core → ⊥
wave_due core w least wave done =
    let (i, low, any) = least.0 in
    done.0 i no_part low (subst (λ d. Any (λ f. due_dist f ≡ d) (owner_part core i).fresh) (wave i low) any)

pub none_due : (core : Core) → IsLeastOf core.parts (length core.parts) None → IsAllTaken core → IsWaveDone core
none_due core none taken = (
  all_below (λ (p : Part). Any (λ f. due_dist f ≡ p.wave) p.fresh → ⊥) core.parts no_part
      (λ k low. subst (λ (l : List Due). Any (λ f. due_dist f ≡ (owner_part core k).wave) l → ⊥) (sym (none k low)) (λ any. absurd (let high = any.2 in omega (arith, high)))),
  taken,
)

pub none_near : (core : Core) (dist w : ℕ) → IsLeastOf core.parts (length core.parts) (Some dist) → w ≤ dist → (dist ≡ w → ⊥) → ((i : ℕ) → i < length core.parts → w ≡ (owner_part core i).wave) → IsAllTaken core → IsWaveDone core
none_near core dist w least timely other wave taken = (
  all_below (λ (p : Part). Any (λ f. due_dist f ≡ p.wave) p.fresh → ⊥) core.parts no_part
      (λ k low any.
      let (x, f, high, at, is) = any in
      let far : dist ≤ due_dist f = subst (λ (g : Due). dist ≤ due_dist g) at (least.1 k low x f high) in
      other (let same = wave k low in omega (arith, far, timely, is, same))),
  taken,
)
