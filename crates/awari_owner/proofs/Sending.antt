-- Queues of batches, seen as lists of lists.
use Rattle.std.proofs.Common.{◌≡◌, ◌≢◌, ℕ, ◌+◌, ◌/◌, ◌<◌, ◌≤◌, ◌==◌, ◌&&◌, inl, inr, Bool, true, false, not, cond, List, [], ◌∷◌, length, get_or, set, ◌++◌, nat_lt, All, sym, ap, subst, ◌∙◌, refl, arith, get_or-set_other, get_or-set_same}
use Rattle.std.proofs.lemmas.List.{get_or-map, length-map, map-set, get_or_past, get_or_default, set-get_or, length_push}
use Rattle.std.proofs.lemmas.List.Elements.{All-nil, All-cons, All-tail}
use Rattle.std.proofs.lemmas.Bool.{cases_lt, cases_eq}
use Rattle.std.proofs.lemmas.Bool.Decides.{nat_tests}
use Rattle.awari_rank.specs.Rank.{rank_of}
use Rattle.awari_owner.specs.Outboxes.{Outboxes, put_behind, queue_to, with_note, AreBatches, AreOutboxes, IsBatch}
use Rattle.awari_block.specs.Part.{Part}
use Rattle.awari_scan.specs.Found.{Source}
use Rattle.awari_owner.specs.Spread.{is_held, note_to, goes_to, with_sent, with_all_sent, PutsAll}
use Rattle.awari_block.specs.declared.notes.Kind.{Kind}
use Rattle.awari_owner.specs.Queues.{Queue, batches_of, queue_in, room_in, no_queue}
use Rattle.awari_block.specs.declared.notes.Note.{Note}
use Rattle.awari_owner.proofs.Lists.{fold_push}

pub batches_length : (queues : List Queue) → length (batches_of queues) ≡ length queues
batches_length queues = length-map queues (λ (q : Queue). q.batches)

pub batches_at : (queues : List Queue) (i : ℕ) (q : Queue) → i < length queues → q ≡ get_or queues i q → get_or (batches_of queues) i [] ≡ q.batches
batches_at queues i q high at = get_or-map (λ (q : Queue). q.batches) queues i q [] high ∙ ap (λ (q : Queue). q.batches) (sym at)

pub batches_set : (queues : List Queue) (i : ℕ) (q : Queue) → batches_of (set queues i q) ≡ set (batches_of queues) i q.batches
batches_set queues i q = map-set (λ (q : Queue). q.batches) queues i q

-- what is not empty is there
pub high_from_some : (batches : List (List (List Note))) (i : ℕ) → get_or batches i [] ≢ [] → i < length batches
high_from_some batches i some = elim (cases_lt i (length batches)) [
  | inl low ↦ low
  | inr high ↦ absurd (some (get_or_past batches i [] high))
]

-- ---- one note put

module _ (queues : List Queue) (i : ℕ) (old new : Queue) (high : i < length queues) (at : old ≡ get_or queues i old) where
  -- the note is put to the queue of its owner, and to no other
  pub sent_here : (part : Part) (span : ℕ) (kind : Kind) (y : Source) → is_held part (rank_of y.0) ≡ false → i ≡ rank_of y.0 / span
      → new.batches ≡ with_note old.batches (note_to part kind y)
      → (to : ℕ) → to < length queues → queue_in (set queues i new) to ≡ with_sent part span to kind (queue_in queues to) y
  sent_here part span kind y out is put to inside = elim (cases_eq i to) [
    | inl same ↦
        let goes : goes_to part span to y ≡ true = ap (λ b. not b && (rank_of y.0 / span == to)) out ∙ eqb_same (rank_of y.0 / span) to (sym is ∙ same) in
        let was : queue_in queues to ≡ old.batches = ap (queue_in queues) (sym same) ∙ batches_at queues i old high at in
        ap (λ b. get_or b to []) (batches_set queues i new) ∙ ap (λ k. get_or (set (batches_of queues) i new.batches) k []) (sym same)
        ∙ get_or-set_same (batches_of queues) i new.batches [] (let long = batches_length queues in omega (arith, long, high))
        ∙ put ∙ ap (λ b. with_note b (note_to part kind y)) (sym was)
        ∙ ap (λ b. cond b (with_note (queue_in queues to) (note_to part kind y)) (queue_in queues to)) (sym goes)
    | inr apart ↦
        let stays : goes_to part span to y ≡ false = ap (λ b. not b && (rank_of y.0 / span == to)) out ∙ eqb_apart (rank_of y.0 / span) to (λ e. apart (is ∙ e)) in
        ap (λ b. get_or b to []) (batches_set queues i new) ∙ get_or-set_other (batches_of queues) i to new.batches [] (λ e. apart (sym e))
        ∙ ap (λ b. cond b (with_note (queue_in queues to) (note_to part kind y)) (queue_in queues to)) (sym stays)
  ]
    where
      eqb_same : (a b : ℕ) → a ≡ b → (a == b) ≡ true
      eqb_same a b e = grind (arith, nat_tests)

      eqb_apart : (a b : ℕ) → (a ≡ b → ⊥) → (a == b) ≡ false
      eqb_apart a b e = grind (arith, nat_tests)

  -- which takes room for one
  pub room_left : new.room + 1 ≡ old.room → (to : ℕ) → room_in queues to ≤ room_in (set queues i new) to + 1
  room_left less to = elim (cases_eq i to) [
    | inl same ↦
        let was : room_in queues to ≡ old.room = ap (room_in queues) (sym same) ∙ ap (λ (q : Queue). q.room) (get_or_default queues i no_queue old high ∙ sym at) in
        let now : room_in (set queues i new) to ≡ new.room = ap (room_in (set queues i new)) (sym same) ∙ ap (λ (q : Queue). q.room) (get_or-set_same queues i new no_queue high) in
        omega (arith, was, now, less)
    | inr apart ↦
        let now : room_in (set queues i new) to ≡ room_in queues to = ap (λ (q : Queue). q.room) (get_or-set_other queues i to new no_queue (λ e. apart (sym e))) in
        omega (arith, now)
  ]

-- nothing is put for a board of the block
pub sent_nothing : (queues : List Queue) (part : Part) (span : ℕ) (kind : Kind) (y : Source) → is_held part (rank_of y.0) ≡ true
    → (to : ℕ) → queue_in queues to ≡ with_sent part span to kind (queue_in queues to) y
sent_nothing queues part span kind y held to =
    let stays : goes_to part span to y ≡ false = ap (λ b. not b && (rank_of y.0 / span == to)) held in
    ap (λ b. cond b (with_note (queue_in queues to) (note_to part kind y)) (queue_in queues to)) (sym stays)

-- ---- one source more

with_sent-same : (part other : Part) (span to : ℕ) (kind : Kind) (queue : List (List Note)) (y : Source) → other.level ≡ part.level → other.gain ≡ part.gain → other.wave ≡ part.wave → other.start ≡ part.start
    → length other.cells ≡ length part.cells → with_sent other span to kind queue y ≡ with_sent part span to kind queue y
with_sent-same part other span to kind queue y level gain wave start len = cc

pub puts_more : (old now : Part) (span : ℕ) (kind : Kind) (before middle after : List Queue) (seen : List Source) (y : Source)
    → now.level ≡ old.level → now.gain ≡ old.gain → now.wave ≡ old.wave → now.start ≡ old.start → length now.cells ≡ length old.cells → length middle ≡ length before
    → PutsAll old span kind before middle seen
    → ((to : ℕ) → to < length middle → queue_in after to ≡ with_sent now span to kind (queue_in middle to) y)
    → PutsAll old span kind before after (seen ++ y ∷ [])
puts_more old now span kind before middle after seen y level gain wave start len many puts one to inside =
    one to (omega (arith, inside, many))
    ∙ with_sent-same old now span to kind (queue_in middle to) y level gain wave start len
    ∙ ap (λ q. with_sent old span to kind q y) (puts to inside)
    ∙ sym (fold_push (with_sent old span to kind) (queue_in before to) seen y)

-- a queue that has the same batches
pub batches_same : (queues : List Queue) (i : ℕ) (old new : Queue) → i < length queues → old ≡ get_or queues i old → new.batches ≡ old.batches → batches_of (set queues i new) ≡ batches_of queues
batches_same queues i old new high at same =
    batches_set queues i new ∙ ap (set (batches_of queues) i) (same ∙ sym (batches_at queues i old high at)) ∙ set-get_or (batches_of queues) i []

-- room for the notes of a board in one queue more
pub reserved_more : (queues : List Queue) (i : ℕ) (new : Queue) (owner : ℕ) → i < length queues → 288 ≤ new.room → ((k : ℕ) → k < i → k ≢ owner → 288 ≤ room_in queues k)
    → (k : ℕ) → k < i + 1 → k ≢ owner → 288 ≤ room_in (set queues i new) k
reserved_more queues i new owner high much before k less other = elim (cases_eq i k) [
  | inl same ↦
      let now : room_in (set queues i new) k ≡ new.room = ap (room_in (set queues i new)) (sym same) ∙ ap (λ (q : Queue). q.room) (get_or-set_same queues i new no_queue high) in
      omega (arith, now, much)
  | inr apart ↦
      let now : room_in (set queues i new) k ≡ room_in queues k = ap (λ (q : Queue). q.room) (get_or-set_other queues i k new no_queue (λ e. apart (sym e))) in
      let much = before k (omega (arith, less, apart)) other in
      omega (arith, now, much)
]

-- ---- batches stay of 1 to 32 notes

one_batch : (m : Note) → AreBatches ((m ∷ []) ∷ [])
one_batch m = All-cons IsBatch (m ∷ []) [] (omega arith, omega arith) (All-nil IsBatch)

behind_batches : (b : List Note) (rest : List (List Note)) (m : Note) → IsBatch b → AreBatches rest → AreBatches (put_behind b rest m)
behind_batches b [] m is are = at (nat_lt (length b) 32) refl
  where
    less : (n : ℕ) → nat_lt n 32 ≡ true → n < 32
    less n h = grind (arith, nat_tests)

    at : (t : Bool) → nat_lt (length b) 32 ≡ t → AreBatches (cond t ((b ++ m ∷ []) ∷ []) (b ∷ (m ∷ []) ∷ []))
    at true e = All-cons IsBatch (b ++ m ∷ []) [] (let more = length_push b m in let low = less (length b) e in (omega (arith, more), omega (arith, more, low))) (All-nil IsBatch)
    at false e = All-cons IsBatch b ((m ∷ []) ∷ []) is (one_batch m)
behind_batches b (c ∷ rest) m is are = All-cons IsBatch b (put_behind c rest m) is (behind_batches c rest m (are 0 c (omega arith)) (All-tail IsBatch c rest are))

pub note_batches : (q : List (List Note)) (m : Note) → AreBatches q → AreBatches (with_note q m)
note_batches [] m are = one_batch m
note_batches (b ∷ rest) m are = behind_batches b rest m (are 0 b (omega arith)) (All-tail IsBatch b rest are)

sent_batches : (part : Part) (span to : ℕ) (kind : Kind) (sources : List Source) (queue : List (List Note)) → AreBatches queue → AreBatches (with_all_sent part span to kind queue sources)
sent_batches part span to kind [] queue are = are
sent_batches part span to kind (y ∷ sources) queue are = sent_batches part span to kind sources (with_sent part span to kind queue y) (at (goes_to part span to y))
  where
    at : (t : Bool) → AreBatches (cond t (with_note queue (note_to part kind y)) queue)
    at true = note_batches queue (note_to part kind y) are
    at false = are

pub all_batches : (part : Part) (span : ℕ) (kind : Kind) (sources : List Source) (before old new : List Queue) → length new ≡ length before
    → batches_of old ≡ batches_of before → PutsAll part span kind old new sources → All AreBatches (batches_of before) → All AreBatches (batches_of new)
all_batches part span kind sources before old new len same puts are to d inside =
    let low : to < length (batches_of before) = omega (arith, inside, batches_length new, batches_length before, len) in
    let olds : length old ≡ length before = sym (batches_length old) ∙ ap length same ∙ batches_length before in
    let was : AreBatches (queue_in old to) = subst (λ b. AreBatches (get_or b to [])) (sym same) (are to [] low) in
    subst AreBatches (sym (puts to (omega (arith, low, olds, batches_length before))) ∙ get_or_default (batches_of new) to [] d inside)
    (sent_batches part span to kind sources (queue_in old to) was)

-- the first batch of a queue has a note
pub first_batch : (o : Outboxes) (to : ℕ) (b : List Note) (rest : List (List Note)) → AreOutboxes o → queue_to o to ≡ b ∷ rest → IsBatch b
first_batch o to b rest are is = elim (cases_lt to (length o.queues)) [
  | inl low ↦ subst AreBatches is (are.batches to [] low) 0 b (omega arith)
  | inr high ↦ (let none : [] ≡ b ∷ rest = sym (get_or_past o.queues to [] high) ∙ is in absurd (cc))
]
