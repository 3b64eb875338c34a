-- What an owner has still to send.
use Rattle.std.specs.Prelude.{◌≡◌, ℕ, ◌<◌, ◌≤◌, if◌then◌else◌, nat_lt, List, [], ◌∷◌, ◌++◌, length, fold, All, slice_index_or}
use Rattle.awari_block.specs.declared.notes.Note.{Note}

-- the owner, and for each owner the batches to be sent there, in order
pub record Outboxes : Type 0 where
  pub owner : ℕ
  pub queues : List (List (List Note))

-- what is to be sent to this owner
abbrev pub queue_to : Outboxes → ℕ → List (List Note)
queue_to outboxes to = slice_index_or outboxes.queues to []

-- one note more behind the batch b and those after it: in the last batch, or in a new one where that has 32 notes
abbrev pub put_behind : List Note → List (List Note) → Note → List (List Note)
put_behind b [] m = if nat_lt (length b) 32 then (b ++ m ∷ []) ∷ [] else b ∷ (m ∷ []) ∷ []
put_behind b (c ∷ rest) m = b ∷ put_behind c rest m

-- one note more: in the last batch, or in a new one where that has 32 notes or is absent
abbrev pub with_note : List (List Note) → Note → List (List Note)
with_note [] m = (m ∷ []) ∷ []
with_note (b ∷ rest) m = put_behind b rest m

-- and all these, one after the other
abbrev pub with_notes : List (List Note) → List Note → List (List Note)
with_notes queue notes = fold with_note queue notes

-- a batch has 1 to 32 notes
abbrev pub IsBatch : List Note → Type 0
IsBatch b = (1 ≤ length b) × (length b ≤ 32)

abbrev pub AreBatches : List (List Note) → Type 0
AreBatches queue = All IsBatch queue

-- the outboxes of one of at most 16 owners, which has nothing to send to itself
pub record AreOutboxes (o : Outboxes) : Type 0 where
  pub few : length o.queues ≤ 16
  pub one : o.owner < length o.queues
  pub own : queue_to o o.owner ≡ []
  pub batches : All AreBatches o.queues

-- the notes of these batches, in order
abbrev pub notes_of : List (List Note) → List Note
notes_of [] = []
notes_of (b ∷ batches) = b ++ notes_of batches
