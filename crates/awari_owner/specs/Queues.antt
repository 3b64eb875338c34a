-- A queue of batches that are to be sent, and the room in it.
use Rattle.std.specs.Prelude.{ℕ, ◌+◌, ◌-◌, ◌*◌, List, [], ◌∷◌, length, map, slice_index_or}
use Rattle.awari_block.specs.declared.notes.Note.{Note}

-- the batches, the first to be sent at the front, and how many notes can be put with no more memory
pub record Queue : Type 0 where
  pub batches : List (List Note)
  pub room : ℕ

-- how many notes go into the last batch, which is b where none is behind it
abbrev pub spare_behind : List Note → List (List Note) → ℕ
spare_behind b [] = 32 - length b
spare_behind b (c ∷ rest) = spare_behind c rest

abbrev pub spare : List (List Note) → ℕ
spare [] = 0
spare (b ∷ rest) = spare_behind b rest

-- how many notes can be put behind these batches, where there are places for this many batches
abbrev pub room_of : ℕ → List (List Note) → ℕ
room_of places batches = 32 * (places - length batches) + spare batches

-- the batches of each queue, those of one, and the room in it
abbrev pub batches_of : List Queue → List (List (List Note))
batches_of queues = map (λ (q : Queue). q.batches) queues

abbrev pub queue_in : List Queue → ℕ → List (List Note)
queue_in queues to = slice_index_or (batches_of queues) to []

abbrev pub no_queue : Queue
no_queue = record { batches = []; room = 0 }

abbrev pub room_in : List Queue → ℕ → ℕ
room_in queues to = (slice_index_or queues to no_queue).room
