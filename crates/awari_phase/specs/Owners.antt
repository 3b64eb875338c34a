-- What a worker keeps of its owner.
use Rattle.std.specs.Prelude.{◌≡◌, ◌≢◌, ◌⊎◌, ℕ, ◌+◌, ◌<◌, ◌≤◌, max, List, [], ◌++◌, length, map, All, ℤ, Some, slice_index_or}
use mathlib.Core.List.{IsPrefix}
use Rattle.awari_lines.specs.Rings.{AreExact, IsOther, IsGrid, SamePairs, owners_of, sent_to, received_from, waiting_from, free_to}
use Rattle.awari_lines.specs.declared.ends.Ends.{Ends}
use Rattle.awari_block.specs.declared.notes.Note.{Note}
use Rattle.arrayvec.specs.ArrayVec.{ArrayVec}
use Rattle.awari_owner.specs.Outboxes.{IsBatch, Outboxes, queue_to, notes_of}
use Rattle.awari_block.specs.Blocks.{KeepSettled}
use Rattle.awari_block.specs.Each.{EachTo}
use Rattle.awari_block.specs.Part.{Part, IsLeastDue, unspread}
use Rattle.awari_owner.specs.Sound.{IsScannedOwner, IsCurrentNote, OpensGain, OwnerSound, SameStake}
use Rattle.awari_owner.specs.Spread.{IsPartOf}
use Rattle.awari_phase.specs.declared.owners.Owner.{Owner}

-- a batch is the list of its notes
abbrev pub Notes : Type 0
Notes = ArrayVec Note

abbrev pub Batches : Type 0
Batches = List (List Note)

abbrev pub items_of : Notes → List Note
items_of b = b.items

-- the batches that were taken from owner j
abbrev pub taken_from : Ends Notes → ℕ → Batches
taken_from e j = map items_of (received_from e j)

-- the batches that are for owner j: those that were sent, and then those that are to be
abbrev pub given_to : Ends Notes → Outboxes → ℕ → Batches
given_to e o j = map items_of (sent_to e j) ++ queue_to o j

-- the notes of these, and of what is still to be sent
abbrev pub notes_taken : Ends Notes → ℕ → List Note
notes_taken e j = notes_of (taken_from e j)

abbrev pub notes_given : Ends Notes → Outboxes → ℕ → List Note
notes_given e o j = notes_of (given_to e o j)

abbrev pub notes_boxed : Outboxes → ℕ → List Note
notes_boxed o j = notes_of (queue_to o j)

abbrev pub IsSound : (List ℕ → ℤ) → Ends Notes → Part → Outboxes → Type 0
IsSound value e part o = OwnerSound value e.owner (owners_of e) part (notes_taken e) (notes_given e o) (notes_boxed o)

-- a batch of 1 to 32 notes of the open gain and wave
pub record IsOpenBatch (part : Part) (b : List Note) : Type 0 where
  pub whole : IsBatch b
  pub opened : All (IsCurrentNote part) b

-- The owner on the same rings, with the same block, gain and distance, is sound where it was; what it took and sent has only
-- grown, and what it sent is of the open gain and wave where what it had to send was. It has no board more to spread.
pub record KeepsOwner (e : Ends Notes) (part : Part) (o : Outboxes) (e' : Ends Notes) (part' : Part) (o' : Outboxes) : Type 0 where
  pub pairs : SamePairs e e'
  pub block : SameStake part part'
  pub owner : o'.owner ≡ o.owner
  pub owners : length o'.queues ≡ length o.queues
  pub received : (j : ℕ) → IsOther e j → IsPrefix (received_from e j) (received_from e' j)
  pub sent : (j : ℕ) → IsOther e j → (gone : List Notes) × (sent_to e' j ≡ sent_to e j ++ gone) × ((value : List ℕ → ℤ) → IsSound value e part o → All (IsOpenBatch part) (map items_of gone))
  pub sound : (value : List ℕ → ℤ) → IsSound value e part o → IsSound value e' part' o'
  pub unspread : unspread part' ≤ unspread part

abbrev pub Kept : Owner → Owner → Type 0
Kept a b = KeepsOwner a.ends a.part a.outboxes b.ends b.part b.outboxes

-- these are the part, the ends and the outboxes of one owner, one of as many
pub record AreOfOne (part : Part) (e : Ends Notes) (o : Outboxes) : Type 0 where
  pub queues : length o.queues ≡ owners_of e
  pub numbered : o.owner ≡ e.owner
  pub part_of : IsPartOf part o

-- a batch of owner j was taken, or none is known to wait
abbrev pub HasTaken : Owner → Owner → ℕ → Type 0
HasTaken a b j = (waiting_from b.ends j ≡ []) ⊎ (length (received_from a.ends j) < length (received_from b.ends j))

-- 64 boards were spread, or none of the open wave is fresh
abbrev pub HasSpread : Owner → Owner → Type 0
HasSpread a b = IsLeastDue b.part (Some b.part.wave) → unspread b.part + 64 ≤ unspread a.part

-- a batch was sent to owner j, or there is none to send, or no room is known on the ring
abbrev pub HasSent : Owner → Owner → ℕ → Type 0
HasSent a b j = (queue_to b.outboxes j ≡ []) ⊎ ((free_to b.ends j ≡ 0) ⊎ (length (sent_to a.ends j) < length (sent_to b.ends j)))

-- what a sweep does, and so what sweeps do
pub record Swept (a b : Owner) : Type 0 where
  pub took : (j : ℕ) → IsOther a.ends j → HasTaken a b j
  pub spread : HasSpread a b
  pub sent : (j : ℕ) → IsOther a.ends j → HasSent a b j

abbrev pub ends_of : Owner → Ends Notes
ends_of o = o.ends

-- the ends of all owners, in order
abbrev pub all_ends : List Owner → List (Ends Notes)
all_ends os = map ends_of os

-- what a look at the rings leaves as it is
abbrev pub rest_of : Owner → Part × Outboxes
rest_of o = (o.part, o.outboxes)

-- The owner on the same rings, with the same block and gain, is sound where it was, and what it took and sent has only grown.
-- Settled boards keep value and distance.
pub record Grown (a b : Owner) : Type 0 where
  pub pairs : SamePairs a.ends b.ends
  pub level : b.part.level ≡ a.part.level
  pub gain : b.part.gain ≡ a.part.gain
  pub start : b.part.start ≡ a.part.start
  pub long : length b.part.cells ≡ length a.part.cells
  pub stays : KeepSettled a.part.start a.part.cells b.part.cells
  pub received : (j : ℕ) → IsOther a.ends j → IsPrefix (received_from a.ends j) (received_from b.ends j)
  pub sent : (j : ℕ) → IsOther a.ends j → IsPrefix (sent_to a.ends j) (sent_to b.ends j)
  pub sound : (value : List ℕ → ℤ) → IsSound value a.ends a.part a.outboxes → IsSound value b.ends b.part b.outboxes

-- one distance is open in all parts
abbrev pub AreInWave : List Owner → Type 0
AreInWave os = (i : ℕ) (d : Owner) → i < length os → (slice_index_or os i d).part.wave ≡ (slice_index_or os 0 d).part.wave

-- So it is of each owner; they stand on a grid, and one distance is open in all parts where one was.
pub record AllGrown (os ps : List Owner) : Type 0 where
  pub many : length ps ≡ length os
  pub each : (i : ℕ) (d : Owner) → i < length os → Grown (slice_index_or os i d) (slice_index_or ps i d)
  pub grid : IsGrid (all_ends ps)
  pub wave : AreInWave os → AreInWave ps

-- this distance is open in the part, where it was less
pub record JoinsWave (dist : ℕ) (a b : Owner) : Type 0 where
  pub grown : Grown a b
  pub ends : b.ends ≡ a.ends
  pub wave : b.part.wave ≡ max a.part.wave dist

-- The next smaller gain is open in the part, and nothing was taken or sent.
pub record OpensNext (a b : Owner) : Type 0 where
  pub ends : b.ends ≡ a.ends
  pub outboxes : b.outboxes ≡ a.outboxes
  pub gain : b.part.gain + 1 ≡ a.part.gain
  pub opens : OpensGain b.part.gain a.part b.part

-- no board is fresh
abbrev pub AreIdle : List Owner → Type 0
AreIdle os = All (λ (o : Owner). o.part.fresh ≡ []) os

-- nothing is to be sent
abbrev pub AreSent : List Owner → Type 0
AreSent os = All (λ (o : Owner). All (λ q. q ≡ []) o.outboxes.queues) os

-- on each ring what was sent was received
abbrev pub AreReceived : List Owner → Type 0
AreReceived os = (i j : ℕ) (d : Ends Notes) → i < length (all_ends os) → j < length (all_ends os) → i ≢ j → received_from (slice_index_or (all_ends os) i d) j ≡ sent_to (slice_index_or (all_ends os) j d) i

-- on each ring what was received, and then what is known to wait, is what was sent
abbrev pub AreLooked : List Owner → Type 0
AreLooked os = AreExact (all_ends os)

-- the notes that owner j took from owner i
abbrev pub taken_notes : List Owner → Owner → ℕ → ℕ → List Note
taken_notes os d i j = notes_taken (slice_index_or os j d).ends i

-- the notes on their way from owner i to owner j: those that are known to wait on the ring, and then those that are to be sent
abbrev pub coming_notes : List Owner → Owner → ℕ → ℕ → List Note
coming_notes os d i j = notes_of (map items_of (waiting_from (slice_index_or os j d).ends i)) ++ notes_boxed (slice_index_or os i d).outboxes j

-- the parts of the owners, in order
abbrev pub parts_of : List Owner → List Part
parts_of os = map (λ (o : Owner). o.part) os

-- The owner of these ends, with its share of the level of n stones, of which nothing is known but the captures, and with
-- nothing to send.
pub record IsScannedWith (value : List ℕ → ℤ) (n owners : ℕ) (e : Ends Notes) (o : Owner) : Type 0 where
  pub ends : o.ends ≡ e
  pub part : IsScannedOwner value n owners e.owner o.part
  pub sent : All (λ q. q ≡ []) o.outboxes.queues

-- of these batches that were sent, those that are not among these received ones are of the open gain and wave
pub record OpenBehind (part : Part) (received sent : List Notes) : Type 0 where
  pub before : List Notes
  pub after : List Notes
  pub came : IsPrefix before received
  pub went : sent ≡ before ++ after
  pub opened : All (IsOpenBatch part) (map items_of after)

-- Each owner is sound, they stand on a grid, and all parts are of one level with the same gain and distance open, of which is all
-- that waits on a ring.
pub record AreTogether (value : List ℕ → ℤ) (n : ℕ) (os : List Owner) : Type 0 where
  pub some : 1 ≤ length os
  pub grid : IsGrid (all_ends os)
  pub sound : All (λ (o : Owner). IsSound value o.ends o.part o.outboxes) os
  pub level : All (λ (o : Owner). o.part.level ≡ n) os
  pub gain : (i : ℕ) (d : Owner) → i < length os → (slice_index_or os i d).part.gain ≡ (slice_index_or os 0 d).part.gain
  pub wave : AreInWave os
  pub waits : (i j : ℕ) (d : Owner) → i < length os → j < length os → i ≢ j
      → OpenBehind (slice_index_or os j d).part (received_from (slice_index_or os i d).ends j) (sent_to (slice_index_or os j d).ends i)

-- Each owner is sound, they stand on a grid, nothing is to be sent or waits on a ring, and all parts are of one level with the
-- same gain and distance open.
pub record AreFinished (value : List ℕ → ℤ) (n : ℕ) (os : List Owner) : Type 0 where
  pub some : 1 ≤ length os
  pub grid : IsGrid (all_ends os)
  pub sent : AreSent os
  pub received : AreReceived os
  pub sound : All (λ (o : Owner). IsSound value o.ends o.part o.outboxes) os
  pub level : All (λ (o : Owner). o.part.level ≡ n) os
  pub gain : (i : ℕ) (d : Owner) → i < length os → (slice_index_or os i d).part.gain ≡ (slice_index_or os 0 d).part.gain
  pub wave : AreInWave os

-- owners that were together so are so still, and those that were finished
abbrev pub StayTogether : List Owner → List Owner → Type 0
StayTogether os ps = (value : List ℕ → ℤ) (n : ℕ) → AreTogether value n os → AreTogether value n ps

abbrev pub StayFinished : List Owner → List Owner → Type 0
StayFinished os ps = (value : List ℕ → ℤ) (n : ℕ) → AreFinished value n os → AreFinished value n ps

-- Between two gains: no board is fresh and nothing is on its way, each owner is sound, and each part has this gain open.
pub record AreAt (value : List ℕ → ℤ) (n opened : ℕ) (os : List Owner) : Type 0 where
  pub finished : AreFinished value n os
  pub idle : AreIdle os
  pub gain : (i : ℕ) (d : Owner) → i < length os → (slice_index_or os i d).part.gain ≡ opened

-- ---- what rounds make of owners

-- A round was made: each owner kept what a worker keeps and made a sweep, and they are back on their grid, together if they were.
pub record Rounds (os ps : List Owner) : Type 0 where
  pub kept : EachTo Kept os ps
  pub swept : EachTo Swept os ps
  pub grid : IsGrid (all_ends ps)
  pub together : StayTogether os ps

-- The rounds of a gain are over: no board is fresh, and nothing is to be sent or waits on a ring.
pub record ClosesGain (os ps : List Owner) : Type 0 where
  pub grown : AllGrown os ps
  pub idle : AreIdle ps
  pub sent : AreSent ps
  pub received : AreReceived ps
  pub finished : StayFinished os ps
