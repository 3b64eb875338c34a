-- Owners that are sound together stay so, whatever is opened and taken.
use Rattle.std.proofs.Common.{◌≡◌, ℕ, ◌<◌, ◌==◌, ◌&&◌, inl, inr, Bool, true, false, cond, if◌then◌else◌, List, [], ◌∷◌, ◌++◌, All, ℤ, refl, sym, ap, subst, ◌∙◌, arith, append_assoc}
use Rattle.std.proofs.lemmas.Bool.{cases_eq, false≢true, ne_eqb}
use Rattle.std.proofs.lemmas.Bool.Decides.{nat_tests}
use Rattle.awari_block.specs.Part.{Part}
use Rattle.awari_block.specs.declared.notes.Note.{Note}
use Rattle.awari_owner.specs.Owners.{AreInStep, AreSound, IsShare, NothingComes}
use Rattle.awari_owner.specs.OwnerFault.{IsFaultOf}
use Rattle.awari_owner.specs.Sound.{CanTake, KeepsHeard, IsScannedOwner, IsCurrentNote, OwnerSound, RefusesNote, TakesNotes, with_taken}
use Rattle.awari_owner.specs.declared.faults.OwnerFault.{OwnerFault}
use Rattle.awari_owner.specs.declared.faults.OwnerFault.TheVariants.{Stranger, Doubled, Far, Memory}
use Rattle.awari_owner.proofs.Expecting.{share_still}
use Rattle.awari_owner.proofs.Sounding.{stake_settled, share_stake, sound_opened, sound_same, sound_scanned}
use Rattle.awari_block.proofs.ListParts.{All-append_second}

-- parts that were scanned, with nothing on its way
pub scanned_sound : (value : List ℕ → ℤ) (n owners : ℕ) (part : ℕ → Part) → 0 < owners → ((i : ℕ) → i < owners → IsScannedOwner value n owners i (part i)) → AreSound value n owners part (λ _ _. []) (λ _ _. [])
scanned_sound value n owners part some scanned = record {
  shares = λ i low. let scan = (scanned i low).scan in record { level = scan.level; start = scan.start; end = scan.end };
  step = record {
    gain = λ i low. (scanned i low).scan.gain ∙ sym (scanned 0 some).scan.gain;
    wave = λ i low. (scanned i low).scan.wave ∙ sym (scanned 0 some).scan.wave;
  };
  sound = λ i low. sound_scanned value n i owners i (part i) (λ _. []) (λ _. []) (λ _. []) (scanned i low) (λ j o. refl) (λ j o. refl) (λ j o. refl);
}

-- a gain or a distance is opened in all parts
pub opened_sound : (value : List ℕ → ℤ) (n owners : ℕ) (part part' : ℕ → Part) (coming taken : ℕ → ℕ → List Note) → AreSound value n owners part coming taken
    → NothingComes owners coming → ((i : ℕ) → i < owners → KeepsHeard (part i) (part' i)) → AreInStep owners part' → AreSound value n owners part' coming taken
opened_sound value n owners part part' coming taken sound none opened step = record {
  shares = λ i low. share_still n owners i (part i) (part' i) (opened i low).seen (sound.shares i low);
  step = step;
  sound = λ i low. sound_opened value i owners (part i) (part' i) (λ j. taken j i) (λ j. taken i j ++ coming i j) (coming i) (opened i low)
      (λ j o. none i j low o.1 (λ e. o.0 (sym e))) (sound.sound i low);
}

-- ---- notes that are taken

-- this part in the place of owner j's, this list in the place of that from i to j, and these notes more from i to j
abbrev pub with_part : (ℕ → Part) → ℕ → Part → ℕ → Part
with_part part j p k = if k == j then p else part k

abbrev pub with_list : (ℕ → ℕ → List Note) → ℕ → ℕ → List Note → ℕ → ℕ → List Note
with_list lists i j notes a b = if (a == i) && (b == j) then notes else lists a b

abbrev pub with_more : (ℕ → ℕ → List Note) → ℕ → ℕ → List Note → ℕ → ℕ → List Note
with_more lists i j notes a b = if b == j then with_taken (λ c. lists c b) i notes a else lists a b

eqb_same : (x y : ℕ) → x ≡ y → (x == y) ≡ true
eqb_same x y e = grind (arith, nat_tests)

pub part_here : (part : ℕ → Part) (j : ℕ) (p : Part) → with_part part j p j ≡ p
part_here part j p = ap (λ b. cond b p (part j)) (eqb_same j j refl)

pub part_other : (part : ℕ → Part) (j : ℕ) (p : Part) (k : ℕ) → (k ≡ j → ⊥) → with_part part j p k ≡ part k
part_other part j p k apart = ap (λ b. cond b p (part k)) (ne_eqb k j apart)

module _ (lists : ℕ → ℕ → List Note) (i j : ℕ) (notes : List Note) where
  pub list_here : with_list lists i j notes i j ≡ notes
  list_here = ap (λ b. cond (b && (j == j)) notes (lists i j)) (eqb_same i i refl) ∙ ap (λ b. cond b notes (lists i j)) (eqb_same j j refl)

  pub list_from : (a b : ℕ) → (a ≡ i → ⊥) → with_list lists i j notes a b ≡ lists a b
  list_from a b apart = ap (λ t. cond (t && (b == j)) notes (lists a b)) (ne_eqb a i apart)

  pub list_to : (a b : ℕ) → (b ≡ j → ⊥) → with_list lists i j notes a b ≡ lists a b
  list_to a b apart = ap (λ t. cond ((a == i) && t) notes (lists a b)) (ne_eqb b j apart) ∙ ap (λ t. cond t notes (lists a b)) (and_false (a == i))
    where
      and_false : (t : Bool) → (t && false) ≡ false
      and_false true = refl
      and_false false = refl

  more_to : (a b : ℕ) → (b ≡ j → ⊥) → with_more lists i j notes a b ≡ lists a b
  more_to a b apart = ap (λ t. cond t (with_taken (λ c. lists c b) i notes a) (lists a b)) (ne_eqb b j apart)

  more_at : (a : ℕ) → with_more lists i j notes a j ≡ with_taken (λ c. lists c j) i notes a
  more_at a = ap (λ t. cond t (with_taken (λ c. lists c j) i notes a) (lists a j)) (eqb_same j j refl)

  more_from : (a b : ℕ) → (a ≡ i → ⊥) → with_more lists i j notes a b ≡ lists a b
  more_from a b apart = at (b == j)
    where
      at : (t : Bool) → cond t (with_taken (λ c. lists c b) i notes a) (lists a b) ≡ lists a b
      at true = ap (λ t. cond t (lists a b ++ notes) (lists a b)) (ne_eqb a i apart)
      at false = refl

  more_here : with_more lists i j notes i j ≡ lists i j ++ notes
  more_here = more_at i ∙ ap (λ t. cond t (lists i j ++ notes) (lists i j)) (eqb_same i i refl)

-- Owner j takes the next notes from owner i.
module _ (value : List ℕ → ℤ) (n owners : ℕ) (part : ℕ → Part) (coming taken : ℕ → ℕ → List Note) (sound : AreSound value n owners part coming taken)
    (i j : ℕ) (high : i < owners) (high' : j < owners) (apart : i ≡ j → ⊥) (q : Part) (notes rest : List Note) (next : coming i j ≡ notes ++ rest) (takes : TakesNotes notes (part j) q) where
  -- the owner as it is then, over the lists as they were or as they are
  abbrev At : ℕ → Type 0
  At k = OwnerSound value k owners (with_part part j q k) (λ a. with_more taken i j notes a k) (λ b. with_more taken i j notes k b ++ with_list coming i j rest k b) (with_list coming i j rest k)

  -- who takes
  receiver : At j
  receiver = sound_same value j owners (with_part part j q j) (with_taken (λ a. taken a j) i notes) (λ a. with_more taken i j notes a j)
      (λ b. taken j b ++ coming j b) (λ b. with_more taken i j notes j b ++ with_list coming i j rest j b) (coming j) (with_list coming i j rest j)
      (λ a o. more_at taken i j notes a)
      (λ b o. ap (λ l. l ++ with_list coming i j rest j b) (more_to taken i j notes j b o.0) ∙ ap (λ l. taken j b ++ l) (list_to coming i j rest j b o.0))
      (λ b o h. subst (All (IsCurrentNote (with_part part j q j))) (sym (list_to coming i j rest j b o.0)) h)
      (subst (λ (p : Part). OwnerSound value j owners p (with_taken (λ a. taken a j) i notes) (λ b. taken j b ++ coming j b) (coming j)) (sym (part_here part j q))
      (takes.sound value j owners i (λ a. taken a j) (λ b. taken j b ++ coming j b) (coming j) (apart, high) (sound.sound j high')))

  -- who sent
  given_on : (b : ℕ) → with_more taken i j notes i b ++ with_list coming i j rest i b ≡ taken i b ++ coming i b
  given_on b = elim (cases_eq b j) [
    | inl same ↦ subst (λ c. with_more taken i j notes i c ++ with_list coming i j rest i c ≡ taken i c ++ coming i c) (sym same)
        (ap (λ l. l ++ with_list coming i j rest i j) (more_here taken i j notes) ∙ ap (λ l. (taken i j ++ notes) ++ l) (list_here coming i j rest)
        ∙ append_assoc (taken i j) notes rest ∙ ap (λ l. taken i j ++ l) (sym next))
    | inr other ↦ ap (λ l. l ++ with_list coming i j rest i b) (more_to taken i j notes i b other) ∙ ap (λ l. taken i b ++ l) (list_to coming i j rest i b other)
  ]

  comes_on : (P : Note → Type 0) (b : ℕ) → All P (coming i b) → All P (with_list coming i j rest i b)
  comes_on P b h = elim (cases_eq b j) [
    | inl same ↦ subst (λ c. All P (with_list coming i j rest i c)) (sym same)
        (subst (All P) (sym (list_here coming i j rest)) (All-append_second P notes rest (subst (All P) next (subst (λ c. All P (coming i c)) same h))))
    | inr other ↦ subst (All P) (sym (list_to coming i j rest i b other)) h
  ]

  sender : At i
  sender = sound_same value i owners (with_part part j q i) (λ a. taken a i) (λ a. with_more taken i j notes a i)
      (λ b. taken i b ++ coming i b) (λ b. with_more taken i j notes i b ++ with_list coming i j rest i b) (coming i) (with_list coming i j rest i)
      (λ a o. more_to taken i j notes a i apart) (λ b o. given_on b) (λ b o h. comes_on (IsCurrentNote (with_part part j q i)) b h)
      (subst (λ (p : Part). OwnerSound value i owners p (λ a. taken a i) (λ b. taken i b ++ coming i b) (coming i)) (sym (part_other part j q i apart)) (sound.sound i high))

  -- and another
  third : (k : ℕ) → k < owners → (k ≡ i → ⊥) → (k ≡ j → ⊥) → At k
  third k low from to = sound_same value k owners (with_part part j q k) (λ a. taken a k) (λ a. with_more taken i j notes a k)
      (λ b. taken k b ++ coming k b) (λ b. with_more taken i j notes k b ++ with_list coming i j rest k b) (coming k) (with_list coming i j rest k)
      (λ a o. more_to taken i j notes a k to)
      (λ b o. ap (λ l. l ++ with_list coming i j rest k b) (more_from taken i j notes k b from) ∙ ap (λ l. taken k b ++ l) (list_from coming i j rest k b from))
      (λ b o h. subst (All (IsCurrentNote (with_part part j q k))) (sym (list_from coming i j rest k b from)) h)
      (subst (λ (p : Part). OwnerSound value k owners p (λ a. taken a k) (λ b. taken k b ++ coming k b) (coming k)) (sym (part_other part j q k to)) (sound.sound k low))

  each_part : (P : ℕ → Part → Type 0) → P j q → ((k : ℕ) → k < owners → P k (part k)) → (k : ℕ) → k < owners → P k (with_part part j q k)
  each_part P here all k low = elim (cases_eq k j) [
    | inl same ↦ subst (λ a. P a (with_part part j q a)) (sym same) (subst (P j) (sym (part_here part j q)) here)
    | inr other ↦ subst (P k) (sym (part_other part j q k other)) (all k low)
  ]

  pub taken_sound : AreSound value n owners (with_part part j q) (with_list coming i j rest) (with_more taken i j notes)
  taken_sound =
      let place = stake_settled (part j) q takes.settles in
      let some : 0 < owners = omega (arith, high) in
      let gains = each_part (λ k p. p.gain ≡ (part 0).gain) (place.level.gain ∙ sound.step.gain j high') sound.step.gain in
      let waves = each_part (λ k p. p.wave ≡ (part 0).wave) (place.level.wave ∙ sound.step.wave j high') sound.step.wave in
      record {
        shares = each_part (IsShare n owners) (share_stake n owners j (part j) q place (sound.shares j high')) sound.shares;
        step = record { gain = λ k low. gains k low ∙ sym (gains 0 some); wave = λ k low. waves k low ∙ sym (waves 0 some) };
        sound = λ k low. elim (cases_eq k j) [
          | inl same ↦ subst At (sym same) receiver
          | inr to ↦ elim (cases_eq k i) [ inl same ↦ subst At (sym same) sender | inr from ↦ third k low from to ]
        ];
      }

-- a note that can be heard is not refused
not_refused : (p : Part) (m : Note) → CanTake p m → (f : OwnerFault) → IsFaultOf p m f → ⊥
not_refused p m can Stranger due = due can.expected
not_refused p m can Doubled due = false≢true (sym due.1 ∙ can.unheard)
not_refused p m can Far due = let far = due.2 in let near = can.near in omega (arith, far, near)
not_refused p m can Memory due = due

-- so no note on its way is
pub none_refused : ((value : List ℕ → ℤ) (n owners : ℕ) (part : ℕ → Part) (coming taken : ℕ → ℕ → List Note) → AreSound value n owners part coming taken
    → (i j : ℕ) → i < owners → j < owners → (i ≡ j → ⊥) → (m : Note) (rest : List Note) → coming i j ≡ m ∷ rest → CanTake (part j) m)
    → (value : List ℕ → ℤ) (n owners : ℕ) (part : ℕ → Part) (coming taken : ℕ → ℕ → List Note) → AreSound value n owners part coming taken
    → (i j : ℕ) → i < owners → j < owners → (i ≡ j → ⊥) → (q : Part) (notes rest : List Note) → coming i j ≡ notes ++ rest → (fault : OwnerFault) → RefusesNote notes (part j) q fault → ⊥
none_refused expects value n owners part coming taken sound i j high high' apart q notes rest next fault r =
    let after : List Note = r.note ∷ (r.after ++ rest) in
    let split : coming i j ≡ r.before ++ after = next ∙ ap (λ l. l ++ rest) r.items ∙ append_assoc r.before (r.note ∷ r.after) rest in
    let mid = taken_sound value n owners part coming taken sound i j high high' apart q r.before after split r.taken in
    not_refused q r.note
    (subst (λ (p : Part). CanTake p r.note) (part_here part j q)
    (expects value n owners (with_part part j q) (with_list coming i j after) (with_more taken i j r.before) mid i j high high' apart r.note (r.after ++ rest) (list_here coming i j after)))
    fault r.refused
