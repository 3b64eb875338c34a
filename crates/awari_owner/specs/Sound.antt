-- One owner that is sound, and what each of its steps keeps of that.
--
-- How to think of it. A board that is spread owes a note to each board whose quiet move leads to it.
-- For two owners i and j, the notes from i to j are one list: those that j took, and behind them
-- those still on their way. The spread boards of i owe just these notes to boards of j, each once
-- (HoldsNotes). What j knows is a tally of what it took from the others, and of what its own spread
-- boards told its own boards. OwnerSound says both of one owner. It holds after every step, whatever
-- the others do, since it speaks of lists and not of time. Owners.antt says it of all owners.
use Rattle.std.specs.Prelude.{◌≡◌, ◌≢◌, ℕ, ◌+◌, ◌-◌, ◌^◌, ◌<◌, ◌≤◌, ◌==◌, if◌then◌else◌, true, List, [], ◌∷◌, ◌++◌, length, sum, All, ℤ, Some, slice_set, None}
use Rattle.awari_board.specs.Rules.{IsBoard}
use Rattle.awari_rank.specs.Rank.{rank_of, size_of}
use Rattle.awari_block.specs.Notes.{IsQuietMove, Has, IsNoteOf}
use Rattle.awari_block.specs.Tally.{has_pit}
use Rattle.awari_block.specs.Blocks.{KeepSettled}
use Rattle.awari_block.specs.Boards.{Settles}
use Rattle.awari_block.specs.Part.{Part, AreFresh, HasFarthest, InBlock, IsExpected, IsLeastDue, IsTallied, Leaves, SameLevel, stored_at, unspread, settled_at}
use Rattle.awari_block.specs.Shares.{first_rank}
use Rattle.awari_owner.specs.OwnerFault.{IsFaultOf}
use Rattle.awari_owner.specs.Outboxes.{Outboxes, notes_of, queue_to}
use Rattle.awari_heard.specs.Heard.{HearsOwn, IsSeenAs, IsSpread, AreOfOtherMoves}
use Rattle.awari_scan.specs.Found.{Source}
use Rattle.awari_owner.specs.Spread.{Sends, Spreads}
use Rattle.awari_owner.specs.declared.faults.OwnerFault.{OwnerFault}
use Rattle.awari_owner.specs.declared.faults.OwnerFault.TheVariants.{Far, Memory}
use Rattle.awari_block.specs.declared.notes.Note.{Note}
use Rattle.awari_block.specs.Pits.{has_pit}

-- the number of another owner
abbrev pub IsOtherOf : ℕ → ℕ → ℕ → Type 0
IsOtherOf owner owners j = (j ≢ owner) × (j < owners)

-- the board of this rank is in the block of owner j
abbrev pub IsInBlockOf : ℕ → ℕ → ℕ → ℕ → Type 0
IsInBlockOf level owners j rank = (first_rank (size_of level) owners j ≤ rank) × (rank < first_rank (size_of level) owners (j + 1))

-- The notes that the spread boards of the part give to the boards of owner j's block, each once, and nothing else.
pub record HoldsNotes (owners : ℕ) (part : Part) (j : ℕ) (notes : List Note) : Type 0 where
  pub once : AreOfOtherMoves notes
  pub true_notes : (m : Note) → Has notes m
      → (p : List ℕ) × (q : List ℕ) × (x : ℕ) × (v : ℤ) × (d : ℕ) × IsBoard p × (sum p ≡ part.level) × InBlock part (rank_of q) × IsInBlockOf part.level owners j (rank_of p) × IsSpread part (rank_of q) v d × IsNoteOf q v d p x m
  pub all_notes : (p q : List ℕ) (x : ℕ) (v : ℤ) (d : ℕ) → IsBoard p → sum p ≡ part.level → InBlock part (rank_of q) → IsInBlockOf part.level owners j (rank_of p)
      → IsQuietMove p x q → IsSpread part (rank_of q) v d → (m : Note) × Has notes m × IsNoteOf q v d p x m

-- a note that is on its way is of the open gain and wave, and the distance can be one more
pub record IsCurrentNote (part : Part) (m : Note) : Type 0 where
  pub gain : m.gain ≡ part.gain
  pub opened : part.gain ≤ part.level
  pub dist : m.dist ≡ part.wave
  pub near : m.dist < 2 ^ 32 - 1

-- Of one owner: the notes that it took from each other one, those that it gave to each, and of these those that are still on
-- their way.
pub record OwnerSound (value : List ℕ → ℤ) (owner owners : ℕ) (part : Part) (taken given coming : ℕ → List Note) : Type 0 where
  -- each cell is a tally of the notes that were taken for it, and of those of own boards that were spread
  pub heard : List Note
  pub tallied : IsTallied value part heard
  pub hears_own : HearsOwn part heard
  pub taken_heard : (j : ℕ) → IsOtherOf owner owners j → (m : Note) → Has (taken j) m → Has heard m
  pub heard_taken : (m : Note) → Has heard m → Leaves part m.target m.pit → (j : ℕ) × IsOtherOf owner owners j × Has (taken j) m
  -- what was given is the notes of the boards that were spread
  pub given_notes : (j : ℕ) → IsOtherOf owner owners j → HoldsNotes owners part j (given j)
  -- what is on its way is of the open gain and wave
  pub opened : (j : ℕ) → IsOtherOf owner owners j → All (IsCurrentNote part) (coming j)
  -- the fresh boards are settled ones of the open gain, each once
  pub fresh : AreFresh part

-- the part of this owner of this many, with no gain open
pub record IsScan (n owners owner : ℕ) (part : Part) : Type 0 where
  pub level : part.level ≡ n
  pub gain : part.gain ≡ n + 1
  pub wave : part.wave ≡ 0
  pub start : part.start ≡ first_rank (size_of n) owners owner
  pub end : part.start + length part.cells ≡ first_rank (size_of n) owners (owner + 1)
  pub unsettled : (rank : ℕ) → InBlock part rank → settled_at part rank ≡ None
  pub fresh : part.fresh ≡ []

-- owner i's part as it is scanned: no gain is open, and no note was heard
pub record IsScannedOwner (value : List ℕ → ℤ) (n owners i : ℕ) (part : Part) : Type 0 where
  pub scan : IsScan n owners i part
  pub tallied : IsTallied value part []
  pub own : HearsOwn part []
  pub fresh : AreFresh part

-- ---- steps

-- the same level, gain and distance, and the same block, whose settled boards keep value and distance
pub record SameStake (old new : Part) : Type 0 where
  pub level : SameLevel old new
  pub long : length new.cells ≡ length old.cells
  pub stays : KeepSettled old.start old.cells new.cells

-- the cells tell what they told of any notes
abbrev pub KeepsTally : Part → Part → Type 0
KeepsTally old new = (value : List ℕ → ℤ) (notes : List Note) → IsTallied value old notes → IsTallied value new notes

-- these are the notes of own spread boards still
abbrev pub KeepsOwn : Part → Part → Type 0
KeepsOwn old new = (notes : List Note) → HearsOwn old notes → HearsOwn new notes

-- The same boards are spread, and all is heard as it was.
pub record KeepsHeard (old new : Part) : Type 0 where
  pub seen : IsSeenAs old new
  pub tallied : KeepsTally old new
  pub own : KeepsOwn old new
  pub fresh : AreFresh new

-- A gain is open, at distance 0. Boards that an end or a capture settles at that gain join the fresh ones.
pub record OpensGain (gain : ℕ) (old new : Part) : Type 0 where
  pub settles : Settles (record old { gain = gain; wave = 0 }) new
  pub tallied : KeepsTally old new
  pub own : KeepsOwn old new
  pub fresh : AreFresh new

-- A distance is open, and nothing else changes.
pub record OpensWave (dist : ℕ) (old new : Part) : Type 0 where
  pub wave : new ≡ record old { wave = dist }
  pub tallied : KeepsTally old new
  pub own : KeepsOwn old new
  pub fresh : AreFresh new

-- this note may be heard now: it is expected, none of its move was heard, and the distance can be one more
pub record CanTake (part : Part) (note : Note) : Type 0 where
  pub expected : IsExpected part note
  pub unheard : has_pit (stored_at part note.target).left note.pit ≡ true
  pub near : note.dist < 2 ^ 32 - 1

-- One note is heard, and the board that it is for may be settled by it.
pub record TakesNote (note : Note) (old new : Part) : Type 0 where
  pub settles : Settles old new
  pub cells : new.cells ≡ slice_set old.cells (note.target - old.start) (stored_at new note.target)
  pub tallied : (value : List ℕ → ℤ) (notes : List Note) → IsTallied value old notes → IsTallied value new (note ∷ notes)
  pub own : (notes : List Note) → HearsOwn old notes → HearsOwn new (note ∷ notes)

-- these notes more from owner j
abbrev pub with_taken : (ℕ → List Note) → ℕ → List Note → ℕ → List Note
with_taken taken j notes k = if k == j then taken k ++ notes else taken k

-- These notes of another owner are heard, in order. An owner that was sound is so with these taken.
pub record TakesNotes (notes : List Note) (old new : Part) : Type 0 where
  pub settles : Settles old new
  pub sound : (value : List ℕ → ℤ) (owner owners from : ℕ) (taken given coming : ℕ → List Note) → IsOtherOf owner owners from
      → OwnerSound value owner owners old taken given coming → OwnerSound value owner owners new (with_taken taken from notes) given coming

-- The notes are heard up to one, which is refused.
pub record RefusesNote (notes : List Note) (old new : Part) (fault : OwnerFault) : Type 0 where
  pub before : List Note
  pub note : Note
  pub after : List Note
  pub items : notes ≡ before ++ note ∷ after
  pub taken : TakesNotes before old new
  pub refused : IsFaultOf new note fault

-- The first fresh board is spread: its notes for the block are heard, and those for other blocks are put to the outboxes. So the
-- part has one board less to spread. An owner that was sound is so, whatever it sent before and what of that is on its way.
pub record SpreadsFirst (old new : Part) (o o' : Outboxes) : Type 0 where
  pub board : List ℕ
  pub sources : List Source
  pub notes : List Note
  pub spreads : Spreads old new board sources
  pub sends : Sends old board sources notes o o'
  pub fewer : unspread new + 1 ≡ unspread old
  pub due : IsLeastDue old (Some old.wave)
  pub sound : (value : List ℕ → ℤ) (taken sent coming : ℕ → List Note)
      → OwnerSound value o.owner (length o.queues) old taken (λ j. sent j ++ notes_of (queue_to o j)) (λ j. coming j ++ notes_of (queue_to o j))
      → OwnerSound value o.owner (length o.queues) new taken (λ j. sent j ++ notes_of (queue_to o' j)) (λ j. coming j ++ notes_of (queue_to o' j))

-- Why it is not spread, though it is due: no distance is greater by one, or room for notes to other owners was refused.
abbrev pub IsSpreadFault : Part → ℕ → OwnerFault → Type 0
IsSpreadFault part owners Far = IsLeastDue part (Some part.wave) × (part.wave ≡ 2 ^ 32 - 1) × HasFarthest part
IsSpreadFault part owners Memory = IsLeastDue part (Some part.wave) × (part.wave < 2 ^ 32 - 1) × (1 < owners)
IsSpreadFault part owners fault = ⊥
