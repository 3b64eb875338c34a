-- What becomes of the boards of a block, and what is needed for it. The steps of owners and of segments go by this too.
use Rattle.std.specs.Prelude.{◌≡◌, ℕ, ℤ, pos, neg_ℤ, ◌-◌, ◌^◌, ◌<◌, ◌≤◌, ◌⊎◌, ◌∷◌, ◌++◌, ◌&&◌, not, Bool, true, false, List, map, length, All, Some, slice_index_or, slice_set}
use Rattle.std.specs.List.Sorted.{IsPermutation}
use Rattle.awari_block.specs.Steps.{cell_after_note, cell_after_opening}
use Rattle.awari_block.specs.Cells.{StepsCell, is_settled, view_of}
use Rattle.awari_block.specs.Blocks.{Due, due_dist, due_rank, no_cell, times_due, IsBlock, KeepSettled}
use Rattle.awari_block.specs.Part.{Part, AreFresh, InBlock, JoinsFresh, SameLevel, settled_at, stored_at, unspread}
use Rattle.awari_block.specs.declared.cells.Cell.{Cell}
use Rattle.awari_block.specs.declared.notes.Kind.{Kind}
use Rattle.awari_block.specs.declared.notes.Kind.TheVariants.{Won, Lost}
use Rattle.awari_block.specs.declared.stakes.Stake.{Stake}

-- what is open in a part
abbrev pub stake_of : Part → Stake
stake_of part = record { level = part.level; gain = part.gain; wave = part.wave }

-- The part stands where it did, over the same boards. Settled boards keep value and distance, and those that are newly settled
-- join the fresh ones, so that none becomes spread.
pub record Settles (old new : Part) : Type 0 where
  pub same : SameLevel old new
  pub size : length new.cells ≡ length old.cells
  pub stays : KeepSettled old.start old.cells new.cells
  pub joins : JoinsFresh old new
  pub unspread : unspread new ≡ unspread old
  pub fresh : AreFresh old → AreFresh new

-- Of the cells from index `low` up to, not including, index `high` the open gain is opened. The others stay as they are.
pub record OpensCells (old new : Part) (low high : ℕ) : Type 0 where
  pub inside : (k : ℕ) → k < length old.cells → low ≤ k → k < high
      → view_of (slice_index_or new.cells k no_cell) ≡ cell_after_opening (view_of (slice_index_or old.cells k no_cell)) old.level old.gain
  pub outside : (k : ℕ) → (k < low) ⊎ (high ≤ k) → slice_index_or new.cells k no_cell ≡ slice_index_or old.cells k no_cell

-- the part with this gain open
abbrev pub at_gain : ℕ → Part → Part
at_gain gain part = record part { gain = gain; wave = 0 }

-- this gain is opened in the part: its boards that an end or a capture settles at that gain are settled
pub record OpensBoards (gain : ℕ) (old new : Part) : Type 0 where
  pub settles : Settles (at_gain gain old) new
  pub cells : OpensCells (at_gain gain old) new 0 (length old.cells)

-- where the board of a cell that is put is newly settled it joins the fresh, and else nothing changes
abbrev pub JoinsIf : Bool → Cell → ℕ → List Due → List Due → Type 0
JoinsIf true new rank fresh after = IsPermutation ((new.dist, rank) ∷ fresh) after
JoinsIf false new rank fresh after = after ≡ fresh

abbrev pub Joins : Cell → Cell → ℕ → List Due → List Due → Type 0
Joins old new rank fresh after = JoinsIf (is_settled new.mark && not (is_settled old.mark)) new rank fresh after

-- this cell may take the place of that of the board of this rank
pub record CanPut (part : Part) (rank : ℕ) (cell : Cell) : Type 0 where
  pub held : InBlock part rank
  pub steps : StepsCell (stake_of part) (stored_at part rank) cell

-- notes of this stake may be told: a gain is open, and the distance can be one more
pub record CanTell (stake : Stake) : Type 0 where
  pub low : stake.level ≤ 24
  pub positive : 1 ≤ stake.gain
  pub inward : stake.gain ≤ stake.level
  pub near : stake.wave < 2 ^ 32 - 1

-- a note of this pit, of the open gain and wave, may be heard for the board of this rank
pub record CanHear (part : Part) (target pit : ℕ) : Type 0 where
  pub held : InBlock part target
  pub own : pit < 6
  pub opened : part.gain ≤ part.level
  pub near : part.wave < 2 ^ 32 - 1

-- it is heard: only the cell of that board changes, by what the note says
pub record HearsNote (old new : Part) (target pit : ℕ) (kind : Kind) : Type 0 where
  pub cells : new.cells ≡ slice_set old.cells (target - old.start) (stored_at new target)
  pub cell : view_of (stored_at new target) ≡ cell_after_note (view_of (stored_at old target)) kind pit old.gain old.wave

-- The first fresh board is of the open wave and of this rank, and is fresh no longer.
pub record TakesFirst (old new : Part) (rank : ℕ) : Type 0 where
  pub rest : new ≡ record old { fresh = new.fresh }
  pub moved : IsPermutation ((old.wave, rank) ∷ new.fresh) old.fresh
  pub first : All (λ f. (old.wave ≤ due_dist f) × (due_dist f ≡ old.wave → rank ≤ due_rank f)) old.fresh
  pub sound : IsBlock (stake_of old) old.start old.cells old.fresh

-- some board of the part is fresh, and settled with this distance
abbrev pub HasFresh : Part → ℕ → Type 0
HasFresh part dist = (rank : ℕ) × (v : ℤ) × InBlock part rank × (settled_at part rank ≡ Some (v, dist)) × (0 < times_due part.fresh rank)

-- the value of a board whose notes are of this kind
abbrev pub value_of_kind : Kind → ℕ → ℤ
value_of_kind Won gain = pos gain
value_of_kind Lost gain = neg_ℤ (pos gain)

-- the other kind
abbrev pub other : Kind → Kind
other Won = Lost
other Lost = Won

-- The part gives these fresh boards away, all of the open wave and of this kind, and is else as it was.
pub record GivesFresh (kind : Kind) (old new : Part) (given : List ℕ) : Type 0 where
  pub rest : new ≡ record old { fresh = new.fresh }
  pub moved : IsPermutation (map (λ rank. (old.wave, rank)) given ++ new.fresh) old.fresh
  pub valued : All (λ rank. InBlock old rank × (settled_at old rank ≡ Some (value_of_kind kind old.gain, old.wave))) given
  pub left : All (λ f. due_dist f ≡ old.wave → settled_at old (due_rank f) ≡ Some (value_of_kind (other kind) old.gain, old.wave)) new.fresh
