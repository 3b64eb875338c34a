-- All owners of a level, and what is on its way between them.
use Rattle.std.specs.Prelude.{◌≡◌, ◌≢◌, ℕ, ◌+◌, ◌-◌, ◌<◌, ◌≤◌, ◌⊎◌, List, [], ◌∷◌, ◌++◌, length, max, All, Any, Option, Some, None, slice_index_or, slice_set}
use Rattle.awari_table.specs.declared.images.Image.{Image}
use Rattle.awari_table.specs.declared.TheConstants.{HIGHEST_LEVEL}
use Rattle.awari_table.specs.Images.{table_of}
use Rattle.awari_table.specs.Shelves.{IsShelf}
use Rattle.awari_block.specs.Blocks.{due_dist}
use Rattle.awari_block.specs.Part.{Part, IsLeastDue}
use Rattle.awari_owner.specs.Owners.{AreSound}
use Rattle.awari_heard.specs.Level.{no_part}
use Rattle.awari_owner.specs.Sound.{IsScan, OpensGain, SameStake, SpreadsFirst, TakesNotes}
use Rattle.awari_owner.specs.Outboxes.{Outboxes, AreBatches, IsBatch, queue_to, notes_of}
use Rattle.awari_owner.specs.Sound as owner
use Rattle.awari_block.specs.declared.notes.Note.{Note}
use Rattle.awari_core.specs.declared.events.Event.{Event}
use Rattle.awari_core.specs.declared.events.Event.TheVariants.{Spread, Send, Take}
use Rattle.awari_core.specs.declared.faults.CoreFault.{CoreFault}
use Rattle.awari_core.specs.declared.faults.CoreFault.TheVariants.{NotEnabled, Owners, Room, TooHigh, Memory}

-- the batches on a ring, the first to be taken at the front, and for how many it has room
pub record Ring : Type 0 where
  pub batches : List (List Note)
  pub room : ℕ

-- an owner's outboxes, and its rings to each owner
pub record Sender : Type 0 where
  pub outboxes : Outboxes
  pub rings : List Ring

-- The shelf over which the level is built, the room of each ring, the open gain, which is 0 where all are closed, and for each
-- owner its part and what it sends by.
pub record Core : Type 0 where
  pub shelf : List Image
  pub room : ℕ
  pub gain : ℕ
  pub parts : List Part
  pub senders : List Sender

abbrev pub no_ring : Ring
no_ring = record { batches = []; room = 0 }

abbrev pub no_sender : Sender
no_sender = record { outboxes = record { owner = 0; queues = [] }; rings = [] }

abbrev pub owner_part : Core → ℕ → Part
owner_part core i = slice_index_or core.parts i no_part

abbrev pub sender_at : Core → ℕ → Sender
sender_at core i = slice_index_or core.senders i no_sender

-- the ring to one owner, and that from one to another
abbrev pub ring_to : Sender → ℕ → Ring
ring_to sender j = slice_index_or sender.rings j no_ring

abbrev pub ring_at : Core → ℕ → ℕ → Ring
ring_at core i j = ring_to (sender_at core i) j

-- the notes on their way to one owner: on the ring, and behind that in the outbox
abbrev pub coming_to : Sender → ℕ → List Note
coming_to sender j = notes_of (ring_to sender j).batches ++ notes_of (queue_to sender.outboxes j)

abbrev pub coming : Core → ℕ → ℕ → List Note
coming core i j = coming_to (sender_at core i) j

-- What owner i of this many sends by: it has its number, and a queue and a ring of this room for each owner. Batches on a ring have
-- 1 to 32 notes, as those in outboxes have.
pub record IsLinked (owners room i : ℕ) (sender : Sender) : Type 0 where
  pub owner : sender.outboxes.owner ≡ i
  pub queues : length sender.outboxes.queues ≡ owners
  pub rings : length sender.rings ≡ owners
  pub rooms : (j : ℕ) → j < owners → (ring_to sender j).room ≡ room
  pub batches : (j : ℕ) → j < owners → AreBatches (ring_to sender j).batches

-- The core is sound: there are lists of taken notes, for each ordered pair of owners, with which all that the owners gave and heard
-- is what was due.
pub record Sound (core : Core) : Type 0 where
  pub shelf : IsShelf core.shelf
  pub low : length core.shelf ≤ HIGHEST_LEVEL
  pub some : 0 < length core.parts
  pub few : length core.parts ≤ 16
  pub senders : length core.senders ≡ length core.parts
  pub linked : (i : ℕ) → i < length core.parts → IsLinked (length core.parts) core.room i (sender_at core i)
  pub gain : (owner_part core 0).gain ≡ max 1 core.gain
  pub taken : ℕ → ℕ → List Note
  pub sound : AreSound (table_of core.shelf).value (length core.shelf) (length core.parts) (owner_part core) (coming core) taken

-- ---- when the owners rest

-- nothing waits in these outboxes and rings
pub record IsSilent (sender : Sender) : Type 0 where
  pub outboxes : All (λ queue. queue ≡ []) sender.outboxes.queues
  pub rings : All (λ (ring : Ring). ring.batches ≡ []) sender.rings

-- nothing is on its way
abbrev pub IsAllTaken : Core → Type 0
IsAllTaken core = All IsSilent core.senders

-- nor is a board fresh
abbrev pub IsAllQuiet : Core → Type 0
IsAllQuiet core = All (λ (part : Part). part.fresh ≡ []) core.parts × IsAllTaken core

-- nothing is on its way, and no fresh board is of the open wave
abbrev pub IsWaveDone : Core → Type 0
IsWaveDone core = All (λ (part : Part). Any (λ f. due_dist f ≡ part.wave) part.fresh → ⊥) core.parts × IsAllTaken core

-- this is the least distance of a fresh board of the first this many parts, or none where there is none
abbrev pub IsLeastOf : List Part → ℕ → Option ℕ → Type 0
IsLeastOf parts count None = (i : ℕ) → i < count → (slice_index_or parts i no_part).fresh ≡ []
IsLeastOf parts count (Some dist) =
    ((i : ℕ) × (i < count) × Any (λ f. due_dist f ≡ dist) (slice_index_or parts i no_part).fresh)
    × ((i : ℕ) → i < count → All (λ f. dist ≤ due_dist f) (slice_index_or parts i no_part).fresh)

abbrev pub IsLeastOfAll : Core → Option ℕ → Type 0
IsLeastOfAll core least = IsLeastOf core.parts (length core.parts) least

-- the next gain is opened in all parts, and nothing else changes
pub record OpensNextGain (old new : Core) : Type 0 where
  pub shelf : new.shelf ≡ old.shelf
  pub room : new.room ≡ old.room
  pub gain : new.gain ≡ old.gain - 1
  pub senders : new.senders ≡ old.senders
  pub count : length new.parts ≡ length old.parts
  pub parts : 1 < old.gain → (i : ℕ) → i < length old.parts → OpensGain new.gain (owner_part old i) (owner_part new i)
  pub closed : old.gain ≤ 1 → new.parts ≡ old.parts

-- a distance is opened in all parts, and nothing else changes; or nothing, where there is none
pub record OpensWaves (dist : ℕ) (old new : Core) : Type 0 where
  pub shelf : new.shelf ≡ old.shelf
  pub room : new.room ≡ old.room
  pub gain : new.gain ≡ old.gain
  pub senders : new.senders ≡ old.senders
  pub count : length new.parts ≡ length old.parts
  pub parts : (i : ℕ) → i < length old.parts → owner.OpensWave dist (owner_part old i) (owner_part new i)

abbrev pub OpensNextWave : Core → Core → Option ℕ → Type 0
OpensNextWave old new None = new ≡ old
OpensNextWave old new (Some dist) = OpensWaves dist old new

-- ---- how a core begins

abbrev pub AreOwners : ℕ → Type 0
AreOwners owners = (1 ≤ owners) × (owners ≤ 16)

abbrev pub IsRingRoom : ℕ → Type 0
IsRingRoom room = (1 ≤ room) × (room ≤ 256)

-- this many owners, whose parts of the shelf's next level were scanned, and nothing is on its way
pub record IsScannedCore (shelf : List Image) (owners room : ℕ) (core : Core) : Type 0 where
  pub over : core.shelf ≡ shelf
  pub rooms : core.room ≡ room
  pub gain : core.gain ≡ length shelf + 1
  pub count : length core.parts ≡ owners
  pub scanned : (i : ℕ) → i < owners → IsScan (length shelf) owners i (owner_part core i)
  pub silent : IsAllTaken core

-- and then the greatest gain was opened, which is the number of stones, or 0
pub record IsBegun (shelf : List Image) (owners room : ℕ) (core : Core) : Type 0 where
  pub few : AreOwners owners
  pub small : IsRingRoom room
  pub low : length shelf ≤ HIGHEST_LEVEL
  pub before : Core
  pub scanned : IsScannedCore shelf owners room before
  pub opened : OpensNextGain before core

-- why a core is not made, in this order
abbrev pub IsNewFault : List Image → ℕ → ℕ → CoreFault → Type 0
IsNewFault shelf owners room Owners = AreOwners owners → ⊥
IsNewFault shelf owners room Room = AreOwners owners × (IsRingRoom room → ⊥)
IsNewFault shelf owners room TooHigh = AreOwners owners × IsRingRoom room × (HIGHEST_LEVEL < length shelf)
IsNewFault shelf owners room Memory = AreOwners owners × IsRingRoom room × (length shelf ≤ HIGHEST_LEVEL)
IsNewFault shelf owners room fault = ⊥

-- ---- how it ends

-- all gains are closed
abbrev pub AreGainsClosed : Core → Type 0
AreGainsClosed core = (core.gain ≡ 0) × IsAllQuiet core

-- ---- what an event does

-- owner i alone changes, to what it is then
pub record ChangesOwner (old new : Core) (i : ℕ) : Type 0 where
  pub shelf : new.shelf ≡ old.shelf
  pub room : new.room ≡ old.room
  pub gain : new.gain ≡ old.gain
  pub parts : new.parts ≡ slice_set old.parts i (owner_part new i)
  pub senders : new.senders ≡ slice_set old.senders i (sender_at new i)

-- what owner i sends by alone changes
pub record ChangesSender (old new : Core) (i : ℕ) : Type 0 where
  pub rest : new ≡ record old { senders = new.senders }
  pub senders : new.senders ≡ slice_set old.senders i (sender_at new i)

-- a batch for j can be sent: there is one, and room on the ring for it
abbrev pub CanSend : Sender → ℕ → Type 0
CanSend sender j = (queue_to sender.outboxes j ≢ []) × (length (ring_to sender j).batches < (ring_to sender j).room)

-- The first batch of the outbox for j moves to the end of the ring to j.
pub record MovesBatch (old new : Sender) (j : ℕ) : Type 0 where
  pub batch : List Note
  pub rest : List (List Note)
  pub whole : IsBatch batch
  pub first : queue_to old.outboxes j ≡ batch ∷ rest
  pub moves : new ≡ record {
    outboxes = record old.outboxes { queues = slice_set old.outboxes.queues j rest };
    rings = slice_set old.rings j (record (ring_to old j) { batches = (ring_to old j).batches ++ batch ∷ [] });
  }

-- This batch is the first on the ring to j, and is taken off.
pub record PopsBatch (batch : List Note) (old new : Sender) (j : ℕ) : Type 0 where
  pub rest : List (List Note)
  pub first : (ring_to old j).batches ≡ batch ∷ rest
  pub pops : new ≡ record old { rings = slice_set old.rings j (record (ring_to old j) { batches = rest }) }

-- The first fresh board of owner i is spread.
pub record DoesSpread (old new : Core) (i : ℕ) : Type 0 where
  pub changes : ChangesOwner old new i
  pub rings : (sender_at new i).rings ≡ (sender_at old i).rings
  pub stake : SameStake (owner_part old i) (owner_part new i)
  pub spreads : SpreadsFirst (owner_part old i) (owner_part new i) (sender_at old i).outboxes (sender_at new i).outboxes

-- A batch moves from the outbox of i for j to the ring from i to j.
abbrev pub DoesSend : Core → Core → ℕ → ℕ → Type 0
DoesSend old new i j = ChangesSender old new i × MovesBatch (sender_at old i) (sender_at new i) j

-- The first batch on the ring from i to j is taken off, and owner j's part hears its notes.
pub record DoesTake (old new : Core) (i j : ℕ) : Type 0 where
  pub batch : List Note
  pub rest : new ≡ record old { parts = slice_set old.parts j (owner_part new j); senders = slice_set old.senders i (sender_at new i) }
  pub pops : PopsBatch batch (sender_at old i) (sender_at new i) j
  pub hears : TakesNotes batch (owner_part old j) (owner_part new j)

-- ---- events

-- the owners of an event are there, and are two
abbrev pub IsBetween : Core → ℕ → ℕ → Type 0
IsBetween core i j = (i < length core.parts) × (j < length core.parts) × (i ≡ j → ⊥)

-- an event that can be taken here
abbrev pub IsEnabled : Core → Event → Type 0
IsEnabled core (Spread i) = (i < length core.parts) × IsLeastDue (owner_part core i) (Some (owner_part core i).wave)
IsEnabled core (Send i j) = IsBetween core i j × CanSend (sender_at core i) j
IsEnabled core (Take i j) = IsBetween core i j × ((ring_at core i j).batches ≡ [] → ⊥)

-- what it does
abbrev pub Does : Core → Core → Event → Type 0
Does old new (Spread i) = DoesSpread old new i
Does old new (Send i j) = DoesSend old new i j
Does old new (Take i j) = DoesTake old new i j

-- why it is refused: as not enabled, or as a spread that wants memory for notes to other owners
abbrev pub IsEventFault : Core → Event → CoreFault → Type 0
IsEventFault core event NotEnabled = IsEnabled core event → ⊥
IsEventFault core (Spread i) Memory = IsEnabled core (Spread i) × (1 < length core.parts)
IsEventFault core event fault = ⊥

-- A core takes these events one after the other, passing over those that are refused, and then is the last core: this many were
-- taken, and this many refused. Each core on the way is sound.
abbrev pub Runs : Core → List Event → Core → ℕ → ℕ → Type 0
Runs old [] new taken refused = (new ≡ old) × (taken ≡ 0) × (refused ≡ 0)
Runs old (event ∷ events) new taken refused =
    ((next : Core) × (more : ℕ) × IsEnabled old event × Does old next event × Sound next × Runs next events new more refused × (taken ≡ more + 1))
    ⊎ ((fault : CoreFault) × (more : ℕ) × IsEventFault old event fault × Runs old events new taken more × (refused ≡ more + 1))
