-- The core stays sound.
use Rattle.std.proofs.Common.{◌≡◌, ℕ, ◌<◌, inl, inr, max, List, [], ◌∷◌, ◌++◌, length, get_or, set, All, ℤ, refl, sym, ap, subst, subst₂, ◌∙◌, arith, append_assoc, get_or-set_same, get_or-set_other, length-set}
use Rattle.std.proofs.lemmas.Bool.{cases_eq}
use Rattle.std.proofs.lemmas.List.Elements.{All-push, All-tail}
use Rattle.awari_table.specs.declared.images.Image.{Image}
use Rattle.awari_table.specs.Images.{table_of}
use Rattle.awari_table.specs.Shelves.{IsShelf}
use Rattle.awari_block.specs.Part.{Part}
use Rattle.awari_block.specs.declared.notes.Note.{Note}
use Rattle.awari_owner.specs.Owners.{AreSound, IsShare}
use Rattle.awari_heard.specs.Level.{no_part}
use Rattle.awari_owner.specs.Outboxes.{AreBatches, IsBatch, Outboxes, notes_of, queue_to}
use Rattle.awari_owner.specs.Sound.{IsCurrentNote, OwnerSound, SameStake, SpreadsFirst, TakesNotes}
use Rattle.awari_owner.specs.Spread.{IsPartOf}
use Rattle.awari_owner.proofs.Lists.{notes_of-last}
use Rattle.awari_owner.proofs.Sounding.{stake_same, stake_settled, share_stake, sound_same}
use Rattle.awari_core.specs.Core.{Core, DoesSpread, IsLinked, Ring, MovesBatch, PopsBatch, Sender, Sound, coming, coming_to, ring_at, ring_to, no_ring, no_sender, owner_part, sender_at}
use Rattle.awari_core.proofs.Sounding.{list_from, list_here, list_to, part_here, part_other, taken_sound, with_list, with_more, with_part}

-- ---- one owner changes

-- an owner is sound with this part and what it sends by, over the notes that all took
abbrev pub IsSoundAt : (List ℕ → ℤ) → ℕ → (ℕ → ℕ → List Note) → ℕ → Part → Sender → Type 0
IsSoundAt value owners taken k part sender = OwnerSound value k owners part (λ j. taken j k) (λ j. taken k j ++ coming_to sender j) (coming_to sender)

-- what holds of each sender holds where one is replaced
pub each_set : {X : Type 0} (P : ℕ → X → Type 0) (items : List X) (none : X) (n i : ℕ) (x : X) → length items ≡ n → i < n → P i x → ((k : ℕ) → k < n → P k (get_or items k none))
    → (k : ℕ) → k < n → P k (get_or (set items i x) k none)
each_set P items none n i x count high here all k low = elim (cases_eq k i) [
  | inl same ↦ subst (λ a. P a (get_or (set items i x) a none)) (sym same) (subst (P i) (sym (get_or-set_same items i x none (omega (arith, count, high)))) here)
  | inr apart ↦ subst (P k) (sym (get_or-set_other items i k x none apart)) (all k low)
]

-- owners whose parts stand where they did, and that are linked and sound
sound_of : (old new : Core) (taken : ℕ → ℕ → List Note) → Sound old → new.shelf ≡ old.shelf → new.room ≡ old.room → new.gain ≡ old.gain
    → length new.parts ≡ length old.parts → length new.senders ≡ length old.senders
    → ((k : ℕ) → k < length old.parts → SameStake (owner_part old k) (owner_part new k))
    → ((k : ℕ) → k < length old.parts → IsLinked (length old.parts) old.room k (sender_at new k))
    → ((k : ℕ) → k < length old.parts → IsSoundAt (table_of old.shelf).value (length old.parts) taken k (owner_part new k) (sender_at new k))
    → Sound new
sound_of old new taken sound shelf room gain count senders place linked each = record {
  shelf = subst IsShelf (sym shelf) sound.shelf;
  low = (let s = ap (λ (l : List Image). length l) shelf in let l = sound.low in omega (arith, s, l));
  some = (let s = sound.some in omega (arith, count, s));
  few = (let s = sound.few in omega (arith, count, s));
  senders = senders ∙ sound.senders ∙ sym count;
  linked = subst₂ (λ (n r : ℕ). (k : ℕ) → k < n → IsLinked n r k (sender_at new k)) (sym count) (sym room) linked;
  gain = (place 0 sound.some).level.gain ∙ sound.gain ∙ ap (max 1) (sym gain);
  taken = taken;
  sound = subst₂ (λ (s : List Image) (m : ℕ). AreSound (table_of s).value (length s) m (owner_part new) (coming new) taken) (sym shelf) (sym count) (record {
    shares = λ k low. share_stake (length old.shelf) (length old.parts) k (owner_part old k) (owner_part new k) (place k low) (sound.sound.shares k low);
    step = record {
      gain = λ k low. (place k low).level.gain ∙ sound.sound.step.gain k low ∙ sym (place 0 sound.some).level.gain;
      wave = λ k low. (place k low).level.wave ∙ sound.sound.step.wave k low ∙ sym (place 0 sound.some).level.wave;
    };
    sound = each;
  });
}

-- ---- a spread

-- an owner's part is that of its outboxes
pub part_linked : (n owners room i : ℕ) (p : Part) (s : Sender) → i < owners → IsShare n owners i p → IsLinked owners room i s → IsPartOf p s.outboxes
part_linked n owners room i p s high share linked =
    let level = share.level in
    let owner = linked.owner in
    let queues = linked.queues in
    record {
      owner = omega (arith, high, owner, queues);
      start = (let start = share.start in cc);
      end = (let end = share.end in cc);
    }

module _ (value : List ℕ → ℤ) (owners room i : ℕ) (taken : ℕ → ℕ → List Note) (p q : Part) (s t : Sender) (rings : t.rings ≡ s.rings) (spreads : SpreadsFirst p q s.outboxes t.outboxes) where
  linked_spread : IsLinked owners room i s → IsLinked owners room i t
  linked_spread was = record {
    owner = spreads.sends.same_owner ∙ was.owner;
    queues = spreads.sends.owners ∙ was.queues;
    rings = ap (λ (l : List Ring). length l) rings ∙ was.rings;
    rooms = λ j low. ap (λ (l : List Ring). (get_or l j no_ring).room) rings ∙ was.rooms j low;
    batches = λ j low. subst (λ (l : List Ring). AreBatches (get_or l j no_ring).batches) (sym rings) (was.batches j low);
  }

  sound_spread : IsLinked owners room i s → IsSoundAt value owners taken i p s → IsSoundAt value owners taken i q t
  sound_spread was sound =
      subst (λ (l : List Ring). OwnerSound value i owners q (λ j. taken j i) (λ j. taken i j ++ (notes_of (get_or l j no_ring).batches ++ notes_of (queue_to t.outboxes j)))
      (λ j. notes_of (get_or l j no_ring).batches ++ notes_of (queue_to t.outboxes j))) (sym rings)
      (subst₂ (λ (a b : ℕ). OwnerSound value a b q (λ j. taken j i) (λ j. taken i j ++ (ring j ++ notes_of (queue_to t.outboxes j))) (λ j. ring j ++ notes_of (queue_to t.outboxes j))) was.owner was.queues
      (subst (λ (g : ℕ → List Note). OwnerSound value s.outboxes.owner (length s.outboxes.queues) q (λ j. taken j i) g (λ j. ring j ++ notes_of (queue_to t.outboxes j))) (λ u j. regroup t.outboxes j u)
      (spreads.sound value (λ j. taken j i) (λ j. taken i j ++ ring j) ring
      (subst (λ (g : ℕ → List Note). OwnerSound value s.outboxes.owner (length s.outboxes.queues) p (λ j. taken j i) g (coming_to s)) (sym (λ u j. regroup s.outboxes j u))
      (subst₂ (λ (a b : ℕ). OwnerSound value a b p (λ j. taken j i) (λ j. taken i j ++ coming_to s j) (coming_to s)) (sym was.owner) (sym was.queues) sound)))))
    where
      ring : ℕ → List Note
      ring j = notes_of (ring_to s j).batches

      regroup : (boxes : Outboxes) (j : ℕ) → (taken i j ++ ring j) ++ notes_of (queue_to boxes j) ≡ taken i j ++ (ring j ++ notes_of (queue_to boxes j))
      regroup boxes j = append_assoc (taken i j) (ring j) (notes_of (queue_to boxes j))

pub spread_step : (old new : Core) (i : ℕ) → i < length old.parts → DoesSpread old new i → Sound old → Sound new
spread_step old new i high does sound =
    let owners = length old.parts in
    let value = (table_of old.shelf).value in
    sound_of old new sound.taken sound does.changes.shelf does.changes.room does.changes.gain
    (ap (λ (l : List Part). length l) does.changes.parts ∙ length-set old.parts i (owner_part new i)) (ap (λ (l : List Sender). length l) does.changes.senders ∙ length-set old.senders i (sender_at new i))
    (both (λ k p s. SameStake (owner_part old k) p) does.stake (λ k low. stake_same (owner_part old k)))
    (both (λ k p s. IsLinked owners old.room k s) (linked_spread value owners old.room i sound.taken (owner_part old i) (owner_part new i) (sender_at old i) (sender_at new i) does.rings does.spreads (sound.linked i high)) sound.linked)
    (both (IsSoundAt value owners sound.taken)
    (sound_spread value owners old.room i sound.taken (owner_part old i) (owner_part new i) (sender_at old i) (sender_at new i) does.rings does.spreads (sound.linked i high) (sound.sound.sound i high)) sound.sound.sound)
  where
    both_set : (P : ℕ → Part → Sender → Type 0) (parts : List Part) (senders : List Sender) (n i : ℕ) (p : Part) (s : Sender) → length parts ≡ n → length senders ≡ n → i < n → P i p s
        → ((k : ℕ) → k < n → P k (get_or parts k no_part) (get_or senders k no_sender)) → (k : ℕ) → k < n → P k (get_or (set parts i p) k no_part) (get_or (set senders i s) k no_sender)
    both_set P parts senders n i p s count count' high here all k low = elim (cases_eq k i) [
      | inl same ↦ subst (λ a. P a (get_or (set parts i p) a no_part) (get_or (set senders i s) a no_sender)) (sym same)
          (subst₂ (P i) (sym (get_or-set_same parts i p no_part (omega (arith, count, high)))) (sym (get_or-set_same senders i s no_sender (omega (arith, count', high)))) here)
      | inr apart ↦ subst₂ (P k) (sym (get_or-set_other parts i k p no_part apart)) (sym (get_or-set_other senders i k s no_sender apart)) (all k low)
    ]

    both : (P : ℕ → Part → Sender → Type 0) → P i (owner_part new i) (sender_at new i) → ((k : ℕ) → k < length old.parts → P k (owner_part old k) (sender_at old k))
        → (k : ℕ) → k < length old.parts → P k (owner_part new k) (sender_at new k)
    both P here all k low = subst₂ (λ (l : List Part) (m : List Sender). P k (get_or l k no_part) (get_or m k no_sender)) (sym does.changes.parts) (sym does.changes.senders)
        (both_set P old.parts old.senders (length old.parts) i (owner_part new i) (sender_at new i) refl sound.senders high here all k low)

-- ---- a batch moves to the ring

module _ (owners room i j : ℕ) (s : Sender) (linked : IsLinked owners room i s) (high' : j < owners) (batch : List Note) (rest : List (List Note)) (whole : IsBatch batch) (first : queue_to s.outboxes j ≡ batch ∷ rest) where
  abbrev ring : Ring
  ring = record (ring_to s j) { batches = (ring_to s j).batches ++ batch ∷ [] }

  abbrev sent : Sender
  sent = record { outboxes = record s.outboxes { queues = set s.outboxes.queues j rest }; rings = set s.rings j ring }

  ring_now : ring_to sent j ≡ ring
  ring_now = get_or-set_same s.rings j ring no_ring (let l = linked.rings in omega (arith, high', l))

  ring_still : (b : ℕ) → (b ≡ j → ⊥) → ring_to sent b ≡ ring_to s b
  ring_still b apart = get_or-set_other s.rings j b ring no_ring apart

  linked_sent : IsLinked owners room i sent
  linked_sent = record {
    owner = linked.owner;
    queues = length-set s.outboxes.queues j rest ∙ linked.queues;
    rings = length-set s.rings j ring ∙ linked.rings;
    rooms = λ b low. elim (cases_eq b j) [
      | inl same ↦ subst (λ a. (ring_to sent a).room ≡ room) (sym same) (ap (λ (l : Ring). l.room) ring_now ∙ linked.rooms j high')
      | inr apart ↦ ap (λ (l : Ring). l.room) (ring_still b apart) ∙ linked.rooms b low
    ];
    batches = λ b low. elim (cases_eq b j) [
      | inl same ↦ subst (λ a. AreBatches (ring_to sent a).batches) (sym same)
          (subst (λ (l : Ring). AreBatches l.batches) (sym ring_now) (All-push IsBatch (ring_to s j).batches batch (linked.batches j high') whole))
      | inr apart ↦ subst (λ (l : Ring). AreBatches l.batches) (sym (ring_still b apart)) (linked.batches b low)
    ];
  }

  -- as much is on its way
  same_coming : (b : ℕ) → coming_to sent b ≡ coming_to s b
  same_coming b = elim (cases_eq b j) [
    | inl same ↦ subst (λ a. coming_to sent a ≡ coming_to s a) (sym same)
        (ap (λ (l : Ring). notes_of l.batches ++ notes_of (queue_to sent.outboxes j)) ring_now
        ∙ ap (λ (q : List (List Note)). notes_of ring.batches ++ notes_of q) (get_or-set_same s.outboxes.queues j rest [] (let q = linked.queues in omega (arith, high', q)))
        ∙ ap (λ l. l ++ notes_of rest) (notes_of-last (ring_to s j).batches batch)
        ∙ append_assoc (notes_of (ring_to s j).batches) batch (notes_of rest) ∙ ap (λ (q : List (List Note)). notes_of (ring_to s j).batches ++ notes_of q) (sym first))
    | inr apart ↦ ap (λ (l : Ring). notes_of l.batches ++ notes_of (queue_to sent.outboxes b)) (ring_still b apart)
        ∙ ap (λ (q : List (List Note)). notes_of (ring_to s b).batches ++ notes_of q) (get_or-set_other s.outboxes.queues j b rest [] apart)
  ]

pub send_step : (old : Core) (i j : ℕ) (t : Sender) → i < length old.parts → j < length old.parts → MovesBatch (sender_at old i) t j → Sound old → Sound (record old { senders = set old.senders i t })
send_step old i j t high high' m sound =
    let owners = length old.parts in
    let value = (table_of old.shelf).value in
    let s = sender_at old i in
    let was = sound.linked i high in
    let now = sent owners old.room i j s was high' m.batch m.rest m.whole m.first in
    let same = same_coming owners old.room i j s was high' m.batch m.rest m.whole m.first in
    let here : IsSoundAt value owners sound.taken i (owner_part old i) now =
    subst (λ (c : ℕ → List Note). OwnerSound value i owners (owner_part old i) (λ a. sound.taken a i) (λ b. sound.taken i b ++ c b) c) (sym (λ u b. same b u)) (sound.sound.sound i high) in
    sound_of old (record old { senders = set old.senders i t }) sound.taken sound refl refl refl refl (length-set old.senders i t) (λ k low. stake_same (owner_part old k))
    (each_set (IsLinked owners old.room) old.senders no_sender owners i t sound.senders high (subst (IsLinked owners old.room i) (sym m.moves) (linked_sent owners old.room i j s was high' m.batch m.rest m.whole m.first)) sound.linked)
    (each_set (λ k (u : Sender). IsSoundAt value owners sound.taken k (owner_part old k) u) old.senders no_sender owners i t sound.senders high
    (subst (IsSoundAt value owners sound.taken i (owner_part old i)) (sym m.moves) here) sound.sound.sound)

-- ---- a batch is taken

module _ (old : Core) (i j : ℕ) (high : i < length old.parts) (high' : j < length old.parts) (apart : i ≡ j → ⊥) (sound : Sound old) (batch : List Note) (t : Sender) (pops : PopsBatch batch (sender_at old i) t j) where
  -- what is left on its way from i to j
  abbrev pub left : List Note
  left = notes_of pops.rest ++ notes_of (queue_to (sender_at old i).outboxes j)

  -- what is first on the ring is next
  pub next_of : coming old i j ≡ batch ++ left
  next_of = ap (λ l. notes_of l ++ notes_of (queue_to (sender_at old i).outboxes j)) pops.first ∙ append_assoc batch (notes_of pops.rest) (notes_of (queue_to (sender_at old i).outboxes j))

  abbrev shorter : Ring
  shorter = record (ring_at old i j) { batches = pops.rest }

  was : IsLinked (length old.parts) old.room i (sender_at old i)
  was = sound.linked i high

  shorter_now : ring_to t j ≡ shorter
  shorter_now = ap (λ (s : Sender). ring_to s j) pops.pops ∙ get_or-set_same (sender_at old i).rings j shorter no_ring (let l = was.rings in omega (arith, high', l))

  shorter_still : (b : ℕ) → (b ≡ j → ⊥) → ring_to t b ≡ ring_at old i b
  shorter_still b other = ap (λ (s : Sender). ring_to s b) pops.pops ∙ get_or-set_other (sender_at old i).rings j b shorter no_ring other

  linked_popped : IsLinked (length old.parts) old.room i t
  linked_popped = record {
    owner = ap (λ (s : Sender). s.outboxes.owner) pops.pops ∙ was.owner;
    queues = ap (λ (s : Sender). length s.outboxes.queues) pops.pops ∙ was.queues;
    rings = ap (λ (s : Sender). length s.rings) pops.pops ∙ length-set (sender_at old i).rings j shorter ∙ was.rings;
    rooms = λ b low. elim (cases_eq b j) [
      | inl same ↦ subst (λ a. (ring_to t a).room ≡ old.room) (sym same) (ap (λ (l : Ring). l.room) shorter_now ∙ was.rooms j high')
      | inr other ↦ ap (λ (l : Ring). l.room) (shorter_still b other) ∙ was.rooms b low
    ];
    batches = λ b low. elim (cases_eq b j) [
      | inl same ↦ subst (λ a. AreBatches (ring_to t a).batches) (sym same)
          (subst (λ (l : Ring). AreBatches l.batches) (sym shorter_now) (All-tail IsBatch batch pops.rest (subst AreBatches pops.first (was.batches j high'))))
      | inr other ↦ subst (λ (l : Ring). AreBatches l.batches) (sym (shorter_still b other)) (was.batches b low)
    ];
  }

  -- what is on its way, but for that batch
  comes_from : (b : ℕ) → coming_to t b ≡ with_list (coming old) i j left i b
  comes_from b = elim (cases_eq b j) [
    | inl same ↦ subst (λ c. coming_to t c ≡ with_list (coming old) i j left i c) (sym same)
        (ap (λ (l : Ring). notes_of l.batches ++ notes_of (queue_to t.outboxes j)) shorter_now ∙ ap (λ (s : Sender). notes_of pops.rest ++ notes_of (queue_to s.outboxes j)) pops.pops
        ∙ sym (list_here (coming old) i j left))
    | inr other ↦ ap (λ (l : Ring). notes_of l.batches ++ notes_of (queue_to t.outboxes b)) (shorter_still b other)
        ∙ ap (λ (s : Sender). notes_of (ring_at old i b).batches ++ notes_of (queue_to s.outboxes b)) pops.pops ∙ sym (list_to (coming old) i j left i b other)
  ]

  pub take_step : (q : Part) → TakesNotes batch (owner_part old j) q → Sound (record old { parts = set old.parts j q; senders = set old.senders i t })
  take_step q takes = sound_of old new taken sound refl refl refl (length-set old.parts j q) (length-set old.senders i t)
      (each_set (λ k p. SameStake (owner_part old k) p) old.parts no_part owners j q refl high' (stake_settled (owner_part old j) q takes.settles) (λ k low. stake_same (owner_part old k)))
      (each_set (IsLinked owners old.room) old.senders no_sender owners i t sound.senders high linked_popped sound.linked)
      (λ k low. sound_same value k owners (owner_part new k) (λ a. taken a k) (λ a. taken a k) (λ b. taken k b ++ with_list (coming old) i j left k b) (λ b. taken k b ++ coming new k b)
      (with_list (coming old) i j left k) (coming new k)
      (λ a o. refl) (λ b o. ap (λ l. taken k b ++ l) (comes k b)) (λ b o h. subst (All (IsCurrentNote (owner_part new k))) (sym (comes k b)) h)
      (subst (λ (p : Part). OwnerSound value k owners p (λ a. taken a k) (λ b. taken k b ++ with_list (coming old) i j left k b) (with_list (coming old) i j left k)) (sym (parts k))
      ((taken_sound value (length old.shelf) owners (owner_part old) (coming old) sound.taken sound.sound i j high high' apart q batch left next_of takes).sound k low)))
    where
      owners : ℕ
      owners = length old.parts

      value : List ℕ → ℤ
      value = (table_of old.shelf).value

      taken : ℕ → ℕ → List Note
      taken = with_more sound.taken i j batch

      new : Core
      new = record old { parts = set old.parts j q; senders = set old.senders i t }

      parts : (k : ℕ) → owner_part new k ≡ with_part (owner_part old) j q k
      parts k = elim (cases_eq k j) [
        | inl same ↦ subst (λ a. owner_part new a ≡ with_part (owner_part old) j q a) (sym same) (get_or-set_same old.parts j q no_part high' ∙ sym (part_here (owner_part old) j q))
        | inr other ↦ get_or-set_other old.parts j k q no_part other ∙ sym (part_other (owner_part old) j q k other)
      ]

      comes : (k b : ℕ) → coming new k b ≡ with_list (coming old) i j left k b
      comes k b = elim (cases_eq k i) [
        | inl same ↦ subst (λ c. coming new c b ≡ with_list (coming old) i j left c b) (sym same)
            (ap (λ (s : Sender). coming_to s b) (get_or-set_same old.senders i t no_sender (let s = sound.senders in omega (arith, high, s))) ∙ comes_from b)
        | inr other ↦ ap (λ (s : Sender). coming_to s b) (get_or-set_other old.senders i k t no_sender other) ∙ sym (list_from (coming old) i j left k b other)
      ]
