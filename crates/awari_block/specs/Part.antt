-- One owner's part of a level, and what it keeps of the notes that it heard.
use Rattle.std.specs.Prelude.{◌≡◌, ℕ, ◌+◌, ◌-◌, ◌^◌, ◌<◌, ◌≤◌, ◌==◌, List, [], length, filter, sum, ℤ, Option, Some, None, All, Any}
use Rattle.awari_board.specs.Rules.{IsBoard}
use Rattle.awari_rank.specs.Rank.{rank_of}
use Rattle.awari_block.specs.Notes.{IsQuietMove}
use Rattle.awari_block.specs.Tally as tally
use Rattle.awari_block.specs.Cells.{view_of, IsEither}
use Rattle.awari_block.specs.Blocks.{Due, due_rank, due_dist, cell_in, times_due, unsettled, JoinNewlySettled}
use Rattle.awari_block.specs.declared.cells.Cell.{Cell}
use Rattle.awari_block.specs.declared.stakes.Stake.{Stake}
use Rattle.awari_block.specs.declared.notes.Note.{Note}

-- The stones on the boards of the level, the open gain and wave, the rank of the block's first board, the cells of its
-- boards in order of rank, and the fresh boards.
pub record Part : Type 0 where
  pub level : ℕ
  pub gain : ℕ
  pub wave : ℕ
  pub start : ℕ
  pub cells : List Cell
  pub fresh : List Due

-- the board of this rank is in the block
abbrev pub InBlock : Part → ℕ → Type 0
InBlock part rank = (part.start ≤ rank) × (rank - part.start < length part.cells)

-- the cell of the board of this rank, as it is stored
abbrev pub stored_at : Part → ℕ → Cell
stored_at part rank = cell_in part.start part.cells rank

-- and what it knows
abbrev pub cell_at : Part → ℕ → tally.Cell
cell_at part rank = view_of (stored_at part rank)

-- the notes for the board of this rank
abbrev pub notes_for : ℕ → List Note → List Note
notes_for rank notes = filter (λ m. m.target == rank) notes

-- the cell of each board of the block tells what these notes say of it
abbrev pub IsTallied : (List ℕ → ℤ) → Part → List Note → Type 0
IsTallied value part notes =
    (p : List ℕ) → IsBoard p → sum p ≡ part.level → InBlock part (rank_of p)
    → tally.IsTally value (cell_at part (rank_of p)) p (notes_for (rank_of p) notes) part.gain part.wave

-- the move from this pit of the board of this rank is quiet, and leads to a board of another block
abbrev pub Leaves : Part → ℕ → ℕ → Type 0
Leaves part target pit =
    (p : List ℕ) → IsBoard p → sum p ≡ part.level → rank_of p ≡ target → (q : List ℕ) × IsQuietMove p pit q × (InBlock part (rank_of q) → ⊥)

-- a note that this part may hear now
pub record IsExpected (part : Part) (note : Note) : Type 0 where
  pub level : note.level ≡ part.level
  pub gain : note.gain ≡ part.gain
  pub opened : part.gain ≤ part.level
  pub dist : note.dist ≡ part.wave
  pub held : InBlock part note.target
  pub own : note.pit < 6
  pub leaves : Leaves part note.target note.pit

-- all but the cells and the fresh boards is the same
pub record SameLevel (old new : Part) : Type 0 where
  pub level : new.level ≡ old.level
  pub gain : new.gain ≡ old.gain
  pub wave : new.wave ≡ old.wave
  pub start : new.start ≡ old.start

-- the fresh boards gain those that are newly settled
abbrev pub JoinsFresh : Part → Part → Type 0
JoinsFresh old new = JoinNewlySettled old.start old.cells old.fresh new.cells new.fresh

-- value and distance of a settled cell
abbrev pub settled_by : tally.Status → Option (ℤ × ℕ)
settled_by (tally.Ended gain) = None
settled_by (tally.Open best plans far) = None
settled_by (tally.Settled value dist plans) = Some (value, dist)

abbrev pub settled_at : Part → ℕ → Option (ℤ × ℕ)
settled_at part rank = settled_by (cell_at part rank).status

-- the least distance of a fresh board, or none where there is none
abbrev pub IsLeastDue : Part → Option ℕ → Type 0
IsLeastDue part None = part.fresh ≡ []
IsLeastDue part (Some dist) = Any (λ f. due_dist f ≡ dist) part.fresh × All (λ f. dist ≤ due_dist f) part.fresh

-- a fresh board: a settled board of the block, of the open gain, either way, and not nearer than the open wave
abbrev pub IsFreshIn : Part → Due → Type 0
IsFreshIn part f = (v : ℤ) × InBlock part (due_rank f) × IsEither part.gain v × (settled_at part (due_rank f) ≡ Some (v, due_dist f)) × (part.wave ≤ due_dist f)

-- the fresh boards are such, each once
pub record AreFresh (part : Part) : Type 0 where
  pub boards : All (IsFreshIn part) part.fresh
  pub once : (rank : ℕ) → times_due part.fresh rank ≤ 1

-- some board of the block is settled with the greatest distance that can be stored
abbrev pub HasFarthest : Part → Type 0
HasFarthest part = (rank : ℕ) × (v : ℤ) × InBlock part rank × (settled_at part rank ≡ Some (v, 2 ^ 32 - 1))

-- the last gain is open, and no board is fresh
abbrev pub IsClosed : Part → Type 0
IsClosed part = (part.gain ≡ 1) × (part.fresh ≡ [])

-- how many boards are not spread: those that are not settled, and the fresh ones
abbrev pub unspread : Part → ℕ
unspread part = length part.fresh + unsettled part.cells

-- a part at this place
abbrev pub part_of : Stake → ℕ → List Cell → List Due → Part
part_of stake start cells fresh = record { level = stake.level; gain = stake.gain; wave = stake.wave; start = start; cells = cells; fresh = fresh }
