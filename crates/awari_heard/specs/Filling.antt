-- Entries put block by block. Private functions alone go by this: no public contract does.
use Rattle.std.specs.Prelude.{◌≡◌, ℕ, ◌+◌, ◌<◌, List, [], ◌∷◌, length, slice_index_or}
use Rattle.awari_table.specs.declared.images.Entry.{Entry}
use Rattle.awari_table.specs.Images.{no_entry}
use Rattle.awari_block.specs.Blocks.{no_cell}
use Rattle.awari_block.specs.Cells.{view_of}
use Rattle.awari_block.specs.Part.{Part}
use Rattle.awari_block.specs.declared.cells.Cell.{Cell}
use Rattle.awari_heard.specs.Kept.{HasKept}

-- the entries of the first `count` boards with these cells are put after those that were there
pub record PushesBlock (cells : List Cell) (old new : List Entry) (count : ℕ) : Type 0 where
  pub size : length new ≡ length old + count
  pub before : (k : ℕ) → k < length old → slice_index_or new k no_entry ≡ slice_index_or old k no_entry
  pub kept : (k : ℕ) → k < count → HasKept (view_of (slice_index_or cells k no_cell)) (slice_index_or new (length old + k) no_entry)

-- the entries of these blocks are put one after another, after those that were there
abbrev pub PutsBlocks : List Part → List Entry → List Entry → Type 0
PutsBlocks [] old new = new ≡ old
PutsBlocks (part ∷ parts) old new = (next : List Entry) × PushesBlock part.cells old next (length part.cells) × PutsBlocks parts next new
