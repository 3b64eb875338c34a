-- What a worker's steps keep.
use Rattle.std.proofs.Common.{◌≡◌, ◌≢◌, ℕ, ◌+◌, ◌==◌, ◌<◌, List, [], ◌∷◌, ◌++◌, length, map, All, ℤ, Option, Result, Ok, Bool, true, false, if◌then◌else◌, refl, sym, ap, subst, subst₂, ◌∙◌, inl, inr, arith, append_assoc, vec_len, get_or}
use Rattle.std.proofs.lemmas.List.{append-nil, map-append}
use Rattle.std.proofs.lemmas.List.Elements.{All-append}
use Rattle.std.proofs.lemmas.Bool.{cases_eq, eqb-true}
use Rattle.std.proofs.lemmas.Bool.Decides.{nat_tests}
use Rattle.std.specs.List.{slice_get}
use mathlib.Core.List.{IsPrefix}
use Rattle.awari_owner.specs.Outboxes.{IsBatch, Outboxes, queue_to, notes_of}
use Rattle.awari_owner.specs.Sound.{IsCurrentNote, OwnerSound, SameStake, SpreadsFirst, TakesNotes, with_taken}
use Rattle.awari_owner.specs.declared.faults.OwnerFault.{OwnerFault}
use Rattle.awari_owner.proofs.Lists.{notes_of-append, notes_of-last}
use Rattle.awari_owner.proofs.Sounding.{place_both, stake_same, stake_settled, sound_same, timely_all}
use Rattle.awari_block.specs.Part.{Part}
use Rattle.awari_lines.specs.declared.ends.Ends.{Ends}
use Rattle.awari_lines.specs.declared.ends.RingPair.{RingPair}
use Rattle.awari_block.specs.declared.notes.Note.{Note}
use Rattle.awari_lines.specs.Rings.{IsOther, SamePairs, SameBut, sent_to, received_from, sent_on, received_on, pair_of, owners_of}
use Rattle.awari_phase.specs.declared.owners.Owner.{Owner}
use Rattle.awari_phase.specs.Owners.{Batches, IsOpenBatch, IsSound, KeepsOwner, Kept, Notes, given_to, items_of, notes_boxed, notes_given, notes_taken, taken_from}
use Rattle.awari_lines.proofs.Grids.{same_pairs, rings_then}
use Rattle.awari_block.proofs.ListParts.{All-append_first, All-append_second}

-- ---- rings

pub pairs_then : (a b c : Ends Notes) → SamePairs a b → SamePairs b c → SamePairs a c
pairs_then a b c s t = record { owner = t.owner ∙ s.owner; owners = t.owners ∙ s.owners; rings = λ k. rings_then (slice_get a.pairs.items k) (slice_get b.pairs.items k) (slice_get c.pairs.items k) (s.rings k) (t.rings k) }

pub IsOther-on : (a b : Ends Notes) (k : ℕ) → SamePairs a b → IsOther a k → IsOther b k
IsOther-on a b k s o = ((λ e. o.0 (e ∙ s.owner)), (let p : vec_len b.pairs ≡ vec_len a.pairs = s.owners in let q : k < vec_len a.pairs + 1 = o.1 in omega arith))

pub prefix_then : (xs ys zs : List Notes) → IsPrefix xs ys → IsPrefix ys zs → IsPrefix xs zs
prefix_then xs ys zs p q = (p.0 ++ q.0, sym (append_assoc xs p.0 q.0) ∙ (ap (λ l. l ++ q.0) p.1 ∙ q.1))

-- a batch of the open gain and wave is so of each part of them
pub open_stake : (a b : Part) → SameStake a b → (x : List Note) → IsOpenBatch a x → IsOpenBatch b x
open_stake a b s x h = record { whole = h.whole; opened = timely_all a b s.level.level s.level.gain s.level.wave x h.opened }

open_back : (a b : Part) → SameStake a b → (x : List Note) → IsOpenBatch b x → IsOpenBatch a x
open_back a b s x h = record { whole = h.whole; opened = timely_all b a (sym s.level.level) (sym s.level.gain) (sym s.level.wave) x h.opened }

-- ---- soundness, on the same rings

pub moved : (value : List ℕ → ℤ) (e e' : Ends Notes) (part : Part) (T G B : ℕ → List Note) → SamePairs e e'
    → OwnerSound value e.owner (owners_of e) part T G B → OwnerSound value e'.owner (owners_of e') part T G B
moved value e e' part T G B s h =
    let many : owners_of e' ≡ owners_of e = ap (λ n. n + 1) s.owners in
    subst (λ n. OwnerSound value e'.owner n part T G B) (sym many) (subst (λ i. OwnerSound value i (owners_of e) part T G B) (sym s.owner) h)

-- the same was taken and given, and the same is to be sent
pub same_sound : (value : List ℕ → ℤ) (e e' : Ends Notes) (part : Part) (o : Outboxes) → SamePairs e e'
    → ((j : ℕ) → IsOther e j → sent_to e' j ≡ sent_to e j) → ((j : ℕ) → IsOther e j → received_from e' j ≡ received_from e j) → IsSound value e part o → IsSound value e' part o
same_sound value e e' part o pairs s r h = moved value e e' part (notes_taken e') (notes_given e' o) (notes_boxed o) pairs
    (sound_same value e.owner (owners_of e) part (notes_taken e) (notes_taken e') (notes_given e o) (notes_given e' o) (notes_boxed o) (notes_boxed o)
    (λ k q. ap (λ (l : List Notes). notes_of (map items_of l)) (r k q)) (λ k q. ap (λ (l : List Notes). notes_of (map items_of l ++ queue_to o k)) (s k q)) (λ k q a. a) h)

-- ---- one ring

module _ (e e' : Ends Notes) (j : ℕ) (pairs : SamePairs e e') (others : SameBut e e' j) where
  -- what holds of ring j before and after holds of all, where it holds of a ring that is the same
  at_each : (P : Option (RingPair Notes) → Option (RingPair Notes) → Type 0) → ((l : Option (RingPair Notes)) → P l l) → P (pair_of e j) (pair_of e' j) → (k : ℕ) → IsOther e k → P (pair_of e k) (pair_of e' k)
  at_each P same here k o =
      elim (cases_eq k j) [
        | inl q ↦ subst (λ (i : ℕ). P (pair_of e i) (pair_of e' i)) (sym q) here
        | inr n ↦ subst (λ (l : Option (RingPair Notes)). P (pair_of e k) l) (sym (others k n o.0)) (same (pair_of e k))
      ]

  pub sent_same : sent_to e' j ≡ sent_to e j → (k : ℕ) → IsOther e k → sent_to e' k ≡ sent_to e k
  sent_same h = at_each (λ l m. sent_on m ≡ sent_on l) (λ l. refl) h

  received_same : received_from e' j ≡ received_from e j → (k : ℕ) → IsOther e k → received_from e' k ≡ received_from e k
  received_same h = at_each (λ l m. received_on m ≡ received_on l) (λ l. refl) h

  pub others_received : (k : ℕ) → IsOther e k → k ≢ j → received_from e' k ≡ received_from e k
  others_received k o n = ap received_on (others k n o.0)

  received_grown : (b : Notes) → received_from e' j ≡ received_from e j ++ b ∷ [] → (k : ℕ) → IsOther e k → IsPrefix (received_from e k) (received_from e' k)
  received_grown b h = at_each (λ l m. IsPrefix (received_on l) (received_on m)) (λ l. ([], append-nil (received_on l))) (b ∷ [], sym h)

  -- nothing was popped
  pub still_keeps : (part : Part) (o : Outboxes) → sent_to e' j ≡ sent_to e j → received_from e' j ≡ received_from e j → KeepsOwner e part o e' part o
  still_keeps part o s r = record {
    pairs = pairs;
    block = stake_same part;
    owner = refl;
    owners = refl;
    received = λ k q. ([], append-nil (received_from e k) ∙ sym (received_same r k q));
    sent = λ k q. ([], sent_same s k q ∙ sym (append-nil (sent_to e k)), λ value h i d lt. absurd (omega (arith, lt)));
    sound = λ value h. same_sound value e e' part o pairs (sent_same s) (received_same r) h;
    unspread = omega arith;
  }

  -- a batch was popped and heard
  taken_more : (b : Notes) → received_from e' j ≡ received_from e j ++ b ∷ [] → (k : ℕ) → IsOther e k → notes_taken e' k ≡ with_taken (notes_taken e) j b.items k
  taken_more b h k o = by (k == j) refl
    where
      differ : (x y : ℕ) → (x == y) ≡ false → x ≢ y
      differ x y f = grind (arith, nat_tests)

      by : (t : Bool) → (k == j) ≡ t → notes_taken e' k ≡ (if t then notes_taken e k ++ b.items else notes_taken e k)
      by true f =
          let P : ℕ → Type 0 = λ q. notes_taken e' q ≡ notes_taken e q ++ b.items in
          subst P (sym (eqb-true k j f)) (ap (λ (l : List Notes). notes_of (map items_of l)) h ∙ ap notes_of (map-append items_of (received_from e j) (b ∷ [])) ∙ notes_of-last (taken_from e j) b.items)
      by false f = ap (λ (l : Option (RingPair Notes)). notes_of (map items_of (received_on l))) (others k (differ k j f) o.0)

  pub take_keeps : (part part' : Part) (o : Outboxes) (b : Notes) → sent_to e' j ≡ sent_to e j → received_from e' j ≡ received_from e j ++ b ∷ [] → IsOther e j → TakesNotes b.items part part'
      → KeepsOwner e part o e' part' o
  take_keeps part part' o b s r other takes = record {
    pairs = pairs;
    block = stake_settled part part' takes.settles;
    owner = refl;
    owners = refl;
    received = received_grown b r;
    sent = λ k q. ([], sent_same s k q ∙ sym (append-nil (sent_to e k)), λ value h i d lt. absurd (omega (arith, lt)));
    sound = λ value h. moved value e e' part' (notes_taken e') (notes_given e' o) (notes_boxed o) pairs
        (sound_same value e.owner (owners_of e) part' (with_taken (notes_taken e) j b.items) (notes_taken e') (notes_given e o) (notes_given e' o) (notes_boxed o) (notes_boxed o)
        (taken_more b r) (λ k q. ap (λ (l : List Notes). notes_of (map items_of l ++ queue_to o k)) (sent_same s k q)) (λ k q a. a)
        (takes.sound value e.owner (owners_of e) j (notes_taken e) (notes_given e o) (notes_boxed o) other h));
    unspread = (let left = takes.settles.unspread in omega (arith, left));
  }

  -- the first batch of the queue was pushed
  pub send_keeps : (part : Part) (o o' : Outboxes) (b : Notes) (rest : Batches) → sent_to e' j ≡ sent_to e j ++ b ∷ [] → received_from e' j ≡ received_from e j → IsOther e j → IsBatch b.items
      → queue_to o j ≡ b.items ∷ rest → queue_to o' j ≡ rest → ((k : ℕ) → k ≢ j → queue_to o' k ≡ queue_to o k) → o'.owner ≡ o.owner → length o'.queues ≡ length o.queues
      → KeepsOwner e part o e' part o'
  send_keeps part o o' b rest s r other whole first left same owner owners = record {
    pairs = pairs;
    block = stake_same part;
    owner = owner;
    owners = owners;
    received = λ k q. ([], append-nil (received_from e k) ∙ sym (received_same r k q));
    sent = sent_at;
    sound = λ value h. moved value e e' part (notes_taken e') (notes_given e' o') (notes_boxed o') pairs
        (sound_same value e.owner (owners_of e) part (notes_taken e) (notes_taken e') (notes_given e o) (notes_given e' o') (notes_boxed o) (notes_boxed o')
        (λ k q. ap (λ (l : List Notes). notes_of (map items_of l)) (received_same r k q)) (λ k q. ap notes_of (given_at k q)) boxed_at h);
    unspread = omega arith;
  }
    where
      P : List Note → Type 0
      P = IsOpenBatch part

      sent_at : (k : ℕ) → IsOther e k → (gone : List Notes) × (sent_to e' k ≡ sent_to e k ++ gone) × ((value : List ℕ → ℤ) → IsSound value e part o → All P (map items_of gone))
      sent_at k q =
          elim (cases_eq k j) [
            | inl at ↦ (
              b ∷ [],
              (let Q : ℕ → Type 0 = λ i. sent_to e' i ≡ sent_to e i ++ b ∷ [] in subst Q (sym at) s),
              λ value h i d lt.
                  (let zeroth : i ≡ 0 = omega (arith, lt) in
                  let all = subst (All (IsCurrentNote part)) (ap notes_of first) (h.opened j other) in
                  subst (λ (n : ℕ). P (get_or (b.items ∷ []) n d)) (sym zeroth) (record { whole = whole; opened = All-append_first (IsCurrentNote part) b.items (notes_of rest) all })),
            )
            | inr n ↦ ([], ap sent_on (others k n q.0) ∙ sym (append-nil (sent_to e k)), λ value h i d lt. absurd (omega (arith, lt)))
          ]

      given_at : (k : ℕ) → IsOther e k → given_to e' o' k ≡ given_to e o k
      given_at k q =
          elim (cases_eq k j) [
            | inl at ↦
                (let Q : ℕ → Type 0 = λ i. given_to e' o' i ≡ given_to e o i in
                subst Q (sym at)
                (ap (λ (l : List Notes). map items_of l ++ queue_to o' j) s ∙ ap (λ (l : Batches). map items_of (sent_to e j ++ b ∷ []) ++ l) left
                ∙ ap (λ (l : Batches). l ++ rest) (map-append items_of (sent_to e j) (b ∷ []))
                ∙ append_assoc (map items_of (sent_to e j)) (b.items ∷ []) rest
                ∙ ap (λ (l : Batches). map items_of (sent_to e j) ++ l) (sym first)))
            | inr n ↦ ap (λ (l : Option (RingPair Notes)). map items_of (sent_on l) ++ queue_to o' k) (others k n q.0) ∙ ap (λ (l : Batches). map items_of (sent_to e k) ++ l) (same k n)
          ]

      boxed_at : (k : ℕ) → IsOther e k → All (IsCurrentNote part) (notes_boxed o k) → All (IsCurrentNote part) (notes_boxed o' k)
      boxed_at k q h =
          elim (cases_eq k j) [
            | inl at ↦
                (let Q : ℕ → Type 0 = λ i. All (IsCurrentNote part) (notes_boxed o i) → All (IsCurrentNote part) (notes_boxed o' i) in
                subst Q (sym at)
                (λ a. subst (λ (bs : Batches). All (IsCurrentNote part) (notes_of bs)) (sym left) (All-append_second (IsCurrentNote part) b.items (notes_of rest) (subst (All (IsCurrentNote part)) (ap notes_of first) a))) h)
            | inr n ↦ subst (λ (bs : Batches). All (IsCurrentNote part) (notes_of bs)) (sym (same k n)) h
          ]

keeps_refl : (e : Ends Notes) (part : Part) (o : Outboxes) → KeepsOwner e part o e part o
keeps_refl e part o = record {
  pairs = same_pairs e;
  block = stake_same part;
  owner = refl;
  owners = refl;
  received = λ k q. ([], append-nil (received_from e k));
  sent = λ k q. ([], sym (append-nil (sent_to e k)), λ value h i d lt. absurd (omega (arith, lt)));
  sound = λ value h. h;
  unspread = omega arith;
}

-- ---- a spread

module _ (e : Ends Notes) (part part' : Part) (o o' : Outboxes) (many : length o.queues ≡ owners_of e) (number : o.owner ≡ e.owner) where
  spread_sound : (value : List ℕ → ℤ) → SpreadsFirst part part' o o' → IsSound value e part o → IsSound value e part' o'
  spread_sound value spreads h =
      subst (λ (g : ℕ → List Note). OwnerSound value e.owner (owners_of e) part' (notes_taken e) g (notes_boxed o')) (sym (λ u j. apart o' j u))
      (subst₂ (λ (i n : ℕ). OwnerSound value i n part' (notes_taken e) (λ j. sent j ++ notes_boxed o' j) (notes_boxed o')) number many
      (spreads.sound value (notes_taken e) sent (λ _. [])
      (subst₂ (λ (i n : ℕ). OwnerSound value i n part (notes_taken e) (λ j. sent j ++ notes_boxed o j) (notes_boxed o)) (sym number) (sym many)
      (subst (λ (g : ℕ → List Note). OwnerSound value e.owner (owners_of e) part (notes_taken e) g (notes_boxed o)) (λ u j. apart o j u) h))))
    where
      sent : ℕ → List Note
      sent j = notes_of (map items_of (sent_to e j))

      apart : (boxes : Outboxes) (j : ℕ) → notes_given e boxes j ≡ sent j ++ notes_boxed boxes j
      apart boxes j = notes_of-append (map items_of (sent_to e j)) (queue_to boxes j)

  pub spread_keeps : SameStake part part' → (done : Bool) (result : Result Bool OwnerFault) → result ≡ Ok done → (result ≡ Ok true → SpreadsFirst part part' o o') → (result ≡ Ok false → (part' ≡ part) × (o' ≡ o))
      → KeepsOwner e part o e part' o'
  spread_keeps place true result was spread none =
      let spreads = spread was in
      record {
        pairs = same_pairs e;
        block = place;
        owner = spreads.sends.same_owner;
        owners = spreads.sends.owners;
        received = λ k q. ([], append-nil (received_from e k));
        sent = λ k q. ([], sym (append-nil (sent_to e k)), λ value h i d lt. absurd (omega (arith, lt)));
        sound = λ value h. spread_sound value spreads h;
        unspread = (let fewer = spreads.fewer in omega (arith, fewer));
      }
  spread_keeps place false result was spread none =
      let same = none was in
      subst₂ (λ (p : Part) (b : Outboxes). KeepsOwner e part o e p b) (sym same.0) (sym same.1) (keeps_refl e part o)

-- ---- one step after another

pub kept_refl : (a : Owner) → Kept a a
kept_refl a = keeps_refl a.ends a.part a.outboxes

pub kept_trans : (a b c : Owner) → Kept a b → Kept b c → Kept a c
kept_trans a b c s t = record {
  pairs = pairs_then a.ends b.ends c.ends s.pairs t.pairs;
  block = place_both a.part b.part c.part s.block t.block;
  owner = t.owner ∙ s.owner;
  owners = t.owners ∙ s.owners;
  received = λ k q. prefix_then (received_from a.ends k) (received_from b.ends k) (received_from c.ends k) (s.received k q) (t.received k (IsOther-on a.ends b.ends k s.pairs q));
  sent = λ k q.
      (let first = s.sent k q in
      let next = t.sent k (IsOther-on a.ends b.ends k s.pairs q) in (
        first.0 ++ next.0,
        next.1 ∙ (ap (λ (l : List Notes). l ++ next.0) first.1 ∙ append_assoc (sent_to a.ends k) first.0 next.0),
        λ value h. subst (λ (bs : Batches). All (IsOpenBatch a.part) bs) (sym (map-append items_of first.0 next.0))
            (All-append (IsOpenBatch a.part) (map items_of first.0) (map items_of next.0) (first.2 value h)
            (λ i d lt. open_back a.part b.part s.block _ (next.2 value (s.sound value h) i d lt))),
      ));
  sound = λ value h. t.sound value (s.sound value h);
  unspread = (let one = s.unspread in let other = t.unspread in omega (arith, one, other));
}

pub kept_owners : (a b : Owner) → Kept a b → owners_of b.ends ≡ owners_of a.ends
kept_owners a b s = ap (λ n. n + 1) s.pairs.owners

pub ruleset keeping = (kept_refl, kept_trans, kept_owners)
