-- Owners that were sound together refuse no note.
use Rattle.std.proofs.Common.{◌≡◌, ◌⊎◌, ℕ, ◌<◌, ◌≤◌, Some, None, List, [], ◌∷◌, ◌++◌, length, map, drop, All, ℤ, refl, sym, ap, subst, ◌∙◌, inl, inr, arith, get_or, append_assoc, suc}
use Rattle.std.proofs.lemmas.Bool.{cases_lt, false≢true}
use Rattle.std.proofs.lemmas.List.{append_cancel_left, drop_at, length-map, map-append, get_or_past}
use Rattle.awari_block.specs.Notes.{Has}
use Rattle.awari_owner.specs.OwnerFault.{IsFaultOf}
use Rattle.awari_block.specs.Part.{Part}
use Rattle.awari_owner.specs.Owners.{AreSound}
use Rattle.awari_heard.specs.Level.{AreTold, AreWhole, DistancesFit, no_part, part_at}
use Rattle.awari_owner.specs.Sound.{CanTake, IsCurrentNote}
use Rattle.awari_owner.specs.declared.faults.OwnerFault.{OwnerFault}
use Rattle.awari_owner.specs.declared.faults.OwnerFault.TheVariants as owner_fault
use Rattle.awari_block.specs.declared.notes.Note.{Note}
use Rattle.awari_table.specs.declared.TheConstants.{HIGHEST_LEVEL}
use Rattle.awari_block.specs.Each.{EachTo}
use Rattle.awari_lines.specs.Rings.{IsGrid, IsOther, SameHistory, SamePairs, sent_to, received_from, waiting_from}
use Rattle.awari_lines.specs.declared.ends.Ends.{Ends}
use Rattle.awari_lines.proofs.Grids.{grid_kept}
use Rattle.awari_owner.specs.Outboxes.{notes_of, queue_to}
use Rattle.awari_block.proofs.NoteLists.{Has-append_cases, Has-append_left, Has-append_right, all_has, has_all}
use Rattle.awari_owner.proofs.Lists.{notes_of-append}
use Rattle.awari_owner.proofs.Expecting.{timely_still}
use Rattle.awari_phase.specs.declared.owners.Owner.{Owner}
use Rattle.awari_phase.specs.declared.faults.PhaseFault.{PhaseFault}
use Rattle.awari_phase.specs.Owners.{AreLooked, AreTogether, Batches, IsOpenBatch, Notes, OpenBehind, all_ends, ends_of, items_of, notes_boxed, notes_given, parts_of, taken_from}
use Rattle.awari_phase.specs.PhaseFault.{IsFirstFault, IsWant, fault_of}
use Rattle.awari_phase.specs.Stops.{HaveWorked}
use Rattle.awari_phase.proofs.Grown.{ends_at}
use Rattle.awari_phase.proofs.Halting.{Halts, halts}
use Rattle.awari_phase.proofs.Together.{AreMet, as_many, ends_there, many_at, number_at, part_there, sound_together}

-- ---- one value for each owner

pick : {X : Type 0} (P : ℕ → X → Type 0) (none : X) (n i : ℕ) → ((k : ℕ) → k < n → (x : X) × P k x) → (i < n) ⊎ (n ≤ i) → X
pick P none n i each (inl low) = (each i low).0
pick P none n i each (inr high) = none

picked : {X : Type 0} (P : ℕ → X → Type 0) (none : X) (n i : ℕ) (each : (k : ℕ) → k < n → (x : X) × P k x) (c : (i < n) ⊎ (n ≤ i)) → i < n → P i (pick P none n i each c)
unfolding pick
picked P none n i each (inl low) h = (each i low).1
picked P none n i each (inr high) h = absurd (omega (arith, h, high))

choice : {X : Type 0} (P : ℕ → X → Type 0) (none : X) (n : ℕ) → ((k : ℕ) → k < n → (x : X) × P k x) → (f : ℕ → X) × ((i : ℕ) → i < n → P i (f i))
choice P none n each = ((λ i. pick P none n i each (cases_lt i n)), λ i low. picked P none n i each (cases_lt i n) low)

-- ---- notes of the open gain and wave

pub has_open : (part : Part) (bs : Batches) (m : Note) → All (IsOpenBatch part) bs → Has (notes_of bs) m → IsCurrentNote part m
has_open part [] m all has = absurd has
has_open part (b ∷ bs) m all has = elim (Has-append_cases b (notes_of bs) m has) [
  | inl here ↦ has_all (IsCurrentNote part) b (all 0 b (omega arith)).opened m here
  | inr later ↦ has_open part bs m (λ i d low. all (suc i) d (omega (arith, low))) later
]

-- what was not received before is open: what came since, and what waits still
pub open_since : (part : Part) (received sent more waits gone : List Notes) → OpenBehind part received sent → (received ++ more) ++ waits ≡ sent ++ gone → All (IsOpenBatch part) (map items_of gone)
    → (m : Note) → Has (notes_of (map items_of (more ++ waits))) m → IsCurrentNote part m
open_since part received sent more waits gone o same opens m has =
    let x = o.came.0 in
    let whole : o.before ++ (x ++ (more ++ waits)) ≡ o.before ++ (o.after ++ gone) =
    sym (append_assoc o.before x (more ++ waits)) ∙ ap (λ l. l ++ (more ++ waits)) o.came.1 ∙ sym (append_assoc received more waits) ∙ same ∙ ap (λ l. l ++ gone) o.went ∙ append_assoc o.before o.after gone in
    let rest : x ++ (more ++ waits) ≡ o.after ++ gone = append_cancel_left o.before (x ++ (more ++ waits)) (o.after ++ gone) whole in
    let names : (a b : List Notes) → notes_of (map items_of (a ++ b)) ≡ notes_of (map items_of a) ++ notes_of (map items_of b) =
    λ a b. ap notes_of (map-append items_of a b) ∙ notes_of-append (map items_of a) (map items_of b) in
    let there : Has (notes_of (map items_of o.after) ++ notes_of (map items_of gone)) m =
    subst (λ (l : List Note). Has l m) (names o.after gone) (subst (λ (l : List Notes). Has (notes_of (map items_of l)) m) rest
    (subst (λ (l : List Note). Has l m) (sym (names x (more ++ waits))) (Has-append_right (notes_of (map items_of x)) (notes_of (map items_of (more ++ waits))) m has))) in
    elim (Has-append_cases (notes_of (map items_of o.after)) (notes_of (map items_of gone)) m there) [
      | inl before ↦ has_open part (map items_of o.after) m o.opened before
      | inr after ↦ has_open part (map items_of gone) m opens after
    ]

-- ---- what the laws say

abbrev Expects : Type 0
Expects = (value : List ℕ → ℤ) (n owners : ℕ) (part : ℕ → Part) (coming taken : ℕ → ℕ → List Note) → AreSound value n owners part coming taken
    → (i j : ℕ) → i < owners → j < owners → (i ≡ j → ⊥) → (m : Note) (rest : List Note) → coming i j ≡ m ∷ rest → CanTake (part j) m

abbrev Settles : Type 0
Settles = (value : List ℕ → ℤ) (level : ℕ) (parts : List Part) → AreWhole level parts → level ≤ 24 → AreTold value parts → All DistancesFit parts

abbrev OfSound : ((List ℕ → ℤ) → ℕ → List Part → Type 0) → Type 0
OfSound P = (value : List ℕ → ℤ) (level : ℕ) (parts : List Part) (coming taken : ℕ → ℕ → List Note) → 1 ≤ length parts → AreSound value level (length parts) (part_at parts) coming taken → P value level parts

-- ---- all owners

-- what was received on a ring had been sent
abbrev pub WereSent : List Owner → Owner → Type 0
WereSent os d = (i j : ℕ) → i < length os → j < length os → (i ≡ j → ⊥) → (waits : List Notes) × (received_from (get_or os i d).ends j ++ waits ≡ sent_to (get_or os j d).ends i)

module _ (value : List ℕ → ℤ) (n : ℕ) (os ps : List Owner) (d : Owner) (together : AreTogether value n os) (worked : HaveWorked os ps) (sent : WereSent ps d) where
  abbrev now : ℕ → Owner
  now i = get_or ps i d

  abbrev was : ℕ → Owner
  was i = get_or os i d

  long : length ps ≡ length os
  long = worked.many

  abbrev Known : ℕ → (ℕ → List Note) × (ℕ → List Note) → Type 0
  Known i x = Halts value (was i) (now i).ends (now i).part (now i).outboxes (now i).fault x.0 x.1

  known : (f : ℕ → (ℕ → List Note) × (ℕ → List Note)) × ((i : ℕ) → i < length os → Known i (f i))
  known = choice Known ((λ _. []), (λ _. [])) (length os) (λ i low. halts value (was i) (now i) (worked.each i d low) (together.sound i d low))

  taken : ℕ → ℕ → List Note
  taken j = (known.0 j).0

  left : ℕ → ℕ → List Note
  left j = (known.0 j).1

  has : (i : ℕ) → i < length os → Halts value (was i) (now i).ends (now i).part (now i).outboxes (now i).fault (taken i) (left i)
  unfolding taken known left
  has = known.1

  coming : ℕ → ℕ → List Note
  coming i j = drop (length (taken j i)) (notes_given (now i).ends (now i).outboxes j)

  low_ps : (i : ℕ) → i < length os → i < length ps
  low_ps i low = subst (λ k. i < k) (sym long) low

  grid : IsGrid (all_ends ps)
  grid = grid_kept (all_ends os) (all_ends ps) (length-map ps ends_of ∙ long ∙ sym (length-map os ends_of)) at together.grid
    where
      at : (x : ℕ) (e : Ends Notes) → x < length (all_ends os) → SamePairs (get_or (all_ends os) x e) (get_or (all_ends ps) x e)
      at x e low =
          let inside : x < length os = subst (λ k. x < k) (length-map os ends_of) low in
          subst (λ (u : Ends Notes). SamePairs u (get_or (all_ends ps) x e)) (sym (ends_at os x e d inside))
          (subst (λ (u : Ends Notes). SamePairs (was x).ends u) (sym (ends_at ps x e d (low_ps x inside))) (has x inside).pairs)

  other : (i j : ℕ) → i < length os → j < length os → (i ≡ j → ⊥) → IsOther (now i).ends j
  other i j low low' apart = (
    (λ e. apart (sym (e ∙ number_at ps d grid i (low_ps i low)))),
    subst (λ k. j < k) (sym (many_at ps d grid i (low_ps i low))) (low_ps j low'),
  )

  -- what is left of the last batch of owner j, what waits on the ring, and what is to be sent
  comes : (i j : ℕ) → i < length os → j < length os → (i ≡ j → ⊥)
      → (waits : List Notes) × (received_from (now j).ends i ++ waits ≡ sent_to (now i).ends j)
      × (coming i j ≡ left j i ++ (notes_of (map items_of waits) ++ notes_of (queue_to (now i).outboxes j)))
      × (notes_given (now i).ends (now i).outboxes j ≡ taken j i ++ coming i j)
  unfolding coming
  comes i j low low' apart =
      let w = sent j i (low_ps j low') (low_ps i low) (λ e. apart (sym e)) in
      let boxed = notes_of (queue_to (now i).outboxes j) in
      let whole = (has j low').whole i (other j i low' low (λ e. apart (sym e))) in
      let given : notes_given (now i).ends (now i).outboxes j ≡ taken j i ++ (left j i ++ (notes_of (map items_of w.0) ++ boxed)) =
      notes_of-append (map items_of (sent_to (now i).ends j)) (queue_to (now i).outboxes j)
      ∙ ap (λ l. notes_of (map items_of l) ++ boxed) (sym w.1)
      ∙ ap (λ l. l ++ boxed) (ap notes_of (map-append items_of (received_from (now j).ends i) w.0) ∙ notes_of-append (taken_from (now j).ends i) (map items_of w.0) ∙ ap (λ l. l ++ notes_of (map items_of w.0)) whole)
      ∙ append_assoc (taken j i ++ left j i) (notes_of (map items_of w.0)) boxed
      ∙ append_assoc (taken j i) (left j i) (notes_of (map items_of w.0) ++ boxed) in
      let is : coming i j ≡ left j i ++ (notes_of (map items_of w.0) ++ boxed) =
      ap (drop (length (taken j i))) given ∙ drop_at (taken j i) (left j i ++ (notes_of (map items_of w.0) ++ boxed)) (length (taken j i)) refl in
      (w.0, w.1, is, given ∙ ap (λ l. taken j i ++ l) (sym is))

  zeroth : 0 < length os
  zeroth = let h = together.some in omega (arith, h)

  timely : (i j : ℕ) → i < length os → j < length os → (i ≡ j → ⊥) → (m : Note) → Has (coming i j) m → IsCurrentNote (now i).part m
  timely i j low low' apart m here =
      let (waits, on_ring, is, given) = comes i j low low' apart in
      let sender = has i low in
      let place = sender.block.level in
      let came = (has j low').came i (other j i low' low (λ e. apart (sym e))) in
      let gone = sender.sent j (other i j low low' apart) in
      let on : (x : Note) → Has (notes_of (map items_of (came.0 ++ waits))) x → IsCurrentNote (was i).part x =
      open_since (was i).part (received_from (was j).ends i) (sent_to (was i).ends j) came.0 waits gone.0 (together.waits j i d low' low (λ e. apart (sym e)))
      (ap (λ l. l ++ waits) (sym came.1) ∙ on_ring ∙ gone.1) gone.2 in
      let names = ap notes_of (map-append items_of came.0 waits) ∙ notes_of-append (map items_of came.0) (map items_of waits) in
      let back : (x : Note) → Has (notes_of (map items_of came.0) ++ notes_of (map items_of waits)) x → IsCurrentNote (now i).part x =
      λ x h. timely_still (was i).part (now i).part x place.level place.gain place.wave (on x (subst (λ (l : List Note). Has l x) (sym names) h)) in
      elim (Has-append_cases (left j i) (notes_of (map items_of waits) ++ notes_boxed (now i).outboxes j) m (subst (λ (l : List Note). Has l m) is here)) [
        | inl last ↦ back m (Has-append_left (notes_of (map items_of came.0)) (notes_of (map items_of waits)) m (came.2 m last))
        | inr later ↦ elim (Has-append_cases (notes_of (map items_of waits)) (notes_boxed (now i).outboxes j) m later) [
          | inl waiting ↦ back m (Has-append_right (notes_of (map items_of came.0)) (notes_of (map items_of waits)) m waiting)
          | inr boxed ↦ has_all (IsCurrentNote (now i).part) (notes_boxed (now i).outboxes j) (sender.sound.opened j (other i j low low' apart)) m boxed
        ]
      ]

  met : AreMet value n ps d coming taken
  met = record {
    some = subst (λ k. 1 ≤ k) (sym long) together.some;
    grid = grid;
    level = λ i low. (let at = low_os i low in (has i at).block.level.level ∙ together.level i d at);
    gain = λ i low. (let at = low_os i low in (has i at).block.level.gain ∙ together.gain i d at ∙ sym (has 0 zeroth).block.level.gain);
    wave = λ i low. (let at = low_os i low in (has i at).block.level.wave ∙ together.wave i d at ∙ sym (has 0 zeroth).block.level.wave);
    sound = λ i low. (has i (low_os i low)).sound;
    arrived = λ i j low low' apart. (comes i j (low_os i low) (low_os j low') apart).3;
    timely = λ i j low low' apart. all_has (IsCurrentNote (now i).part) (coming i j) (timely i j (low_os i low) (low_os j low') apart);
  }
    where
      low_os : (i : ℕ) → i < length ps → i < length os
      low_os i low = subst (λ k. i < k) long low

  -- the parts
  abbrev parts : List Part
  parts = parts_of ps

  sound : AreSound value n (length parts) (part_at parts) coming (λ i j. taken j i)
  sound = subst (λ k. AreSound value n k (part_at parts) coming (λ i j. taken j i)) (sym (as_many ps)) (sound_together value n ps d coming taken met)

  abbrev Fit : Type 0
  Fit = (k : ℕ) → k < length os → DistancesFit (now k).part

  refuted : (part : Part) (m : Note) (fault : OwnerFault) → IsFaultOf part m fault → CanTake part m → ⊥
  refuted part m owner_fault.Stranger refused can = refused can.expected
  refuted part m owner_fault.Doubled refused can = absurd (false≢true (sym refused.1 ∙ can.unheard))
  refuted part m owner_fault.Far refused can = let near = can.near in let far = refused.2 in omega (arith, near, far)
  refuted part m owner_fault.Memory refused can = refused

  -- only memory is wanting
  fit : Settles → OfSound (λ v l p. AreWhole l p) → OfSound (λ v l p. AreTold v p) → n ≤ 24 → Fit
  fit settles whole told small k low =
      let first : 1 ≤ length parts = subst (λ x. 1 ≤ x) (sym (as_many ps ∙ long)) together.some in
      subst DistancesFit (sym (part_there ps k d (low_ps k low)))
      (settles value n parts (whole value n parts coming (λ i j. taken j i) first sound) small (told value n parts coming (λ i j. taken j i) first sound) k no_part
      (subst (λ x. k < x) (sym (as_many ps)) (low_ps k low)))

  only_memory : Expects → Fit → (k : ℕ) → k < length os → (fault : OwnerFault) → (now k).fault ≡ Some fault → fault ≡ owner_fault.Memory
  only_memory expects fit k low fault came = elim ((has k low).due fault came) [
    | inl memory ↦ memory
    | inr rest ↦ elim rest [
      | inl far ↦ (let (rank, v, held, settled) = far.1 in let f = fit k low rank v 4294967295 held settled in absurd (omega (arith, f)))
      | inr note ↦
          let (j, m, after, from, is, refused) = note in
          let apart : j ≡ k → ⊥ = λ e. from.0 (e ∙ sym (number_at ps d grid k (low_ps k low))) in
          let low' : j < length ps = subst (λ x. j < x) (many_at ps d grid k (low_ps k low)) from.1 in
          let next = (comes j k (subst (λ x. j < x) long low') low apart).2 ∙ ap (λ l. l ++ (notes_of (map items_of (comes j k (subst (λ x. j < x) long low') low apart).0) ++ notes_of (queue_to (now j).outboxes k))) is in
          let known = expects value n (length parts) (part_at parts) coming (λ a b. taken b a) sound j k (subst (λ x. j < x) (sym (as_many ps)) low') (subst (λ x. k < x) (sym (as_many ps)) (low_ps k low)) apart m _ next in
          absurd (refuted (now k).part m fault refused
          (subst (λ (p : Part). CanTake p m) (sym (part_there ps k d (low_ps k low))) known))
    ]
  ]

-- ---- the fault that is told

-- a look at all rings shows what had been sent
sent_before : (ps qs : List Owner) (d : Owner) → IsGrid (all_ends ps) → EachTo SameHistory (all_ends ps) (all_ends qs) → AreLooked qs → WereSent ps d
sent_before ps qs d grid same exact i j low low' apart =
    let many = same.many in
    let there_in : (k : ℕ) → k < length (all_ends ps) → k < length (all_ends qs) = λ k h. omega (arith, h, many) in
    let in_ends : (k : ℕ) → k < length ps → k < length (all_ends ps) = λ k h. subst (λ x. k < x) (sym (length-map ps ends_of)) h in
    let there : (k : ℕ) → get_or (all_ends ps) k d.ends ≡ (get_or ps k d).ends = λ k. ends_there ps k d in
    let here = same.each i d.ends (in_ends i low) in
    let from = same.each j d.ends (in_ends j low') in
    let number : (k : ℕ) → k < length ps → (get_or (all_ends ps) k d.ends).owner ≡ k = λ k h. grid.owner k d.ends (in_ends k h) in
    let received = here.received j (λ e. apart (sym (e ∙ number i low))) in
    let sent = from.sent i (λ e. apart (e ∙ number j low')) in (
      waiting_from (get_or (all_ends qs) i d.ends) j,
      ap (λ (e : Ends Notes). received_from e j ++ waiting_from (get_or (all_ends qs) i d.ends) j) (sym (there i)) ∙ ap (λ l. l ++ waiting_from (get_or (all_ends qs) i d.ends) j) (sym received)
          ∙ exact i j d.ends (there_in i (in_ends i low)) (there_in j (in_ends j low')) apart ∙ sent ∙ ap (λ (e : Ends Notes). sent_to e i) (there j),
    )

-- an owner that had a fault stands in the list
stands : (ps : List Owner) (place : ℕ) (owner : Owner) (had : OwnerFault) → ((d : Owner) → get_or ps place d ≡ owner) → owner.fault ≡ Some had → (place < length ps) ⊎ (length ps ≤ place) → place < length ps
stands ps place owner had of_owner came (inl low) = low
stands ps place owner had of_owner came (inr high) =
    let other : Owner = record owner { fault = None } in
    let same : other ≡ owner = sym (get_or_past ps place other high) ∙ of_owner other in
    let none : None ≡ Some had = ap (λ (o : Owner). o.fault) same ∙ came in
    absurd (cc)

want_of : (owner : ℕ) (had : OwnerFault) (fault : PhaseFault) → had ≡ owner_fault.Memory → fault ≡ fault_of owner had → IsWant fault
want_of owner had fault is told = subst IsWant (sym (told ∙ ap (fault_of owner) is)) tt

pub wanting : Expects → Settles → OfSound (λ v l p. AreWhole l p) → OfSound (λ v l p. AreTold v p)
    → (ps qs : List Owner) (fault : PhaseFault) → IsGrid (all_ends ps) → IsFirstFault ps fault
    → EachTo SameHistory (all_ends ps) (all_ends qs) → AreLooked qs
    → (value : List ℕ → ℤ) (n : ℕ) (before : List Owner) → n ≤ HIGHEST_LEVEL → AreTogether value n before → HaveWorked before ps → IsWant fault
wanting expects settles whole told ps qs fault grid first same exact value n before small together worked =
    let d = first.owner in
    let low = stands ps first.place d first.had first.of_owner first.came (cases_lt first.place (length ps)) in
    let were = sent_before ps qs d grid same exact in
    let fits = fit value n before ps d together worked were settles whole told (omega (arith, small)) in
    let fault_there : (get_or ps first.place d).fault ≡ Some first.had = ap (λ (o : Owner). o.fault) (first.of_owner d) ∙ first.came in
    want_of d.ends.owner first.had fault
    (only_memory value n before ps d together worked were expects fits first.place (subst (λ k. first.place < k) worked.many low) first.had fault_there) first.told
