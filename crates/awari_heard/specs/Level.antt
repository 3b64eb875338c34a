-- The parts of a level, all together, and what they heard.
--
-- How to think of it. The parts are blocks of consecutive ranks, one after the other (AreWhole): one
-- part, a few segments, or a block for each owner. AreHeard is what every builder comes to before it
-- opens a gain: the cells of each part are tallies of the notes of the spread boards of all parts. It is
-- the one gate to a right level: once gain 1 is closed no board is fresh, so every settled board was
-- spread, and Finish.antt says why each entry is then right. AreTold is the half that holds while notes
-- are under way: what was heard is true, though not yet all.
use Rattle.std.specs.Prelude.{◌≡◌, ℕ, ◌+◌, ◌-◌, ◌^◌, ◌<◌, List, [], ◌∷◌, length, sum, ℤ, Some, All, slice_index_or}
use Rattle.std.specs.List.{flat_map}
use Rattle.awari_board.specs.Rules.{IsBoard}
use Rattle.awari_rank.specs.Rank.{rank_of, size_of}
use Rattle.awari_block.specs.Notes.{IsNoteOf}
use Rattle.awari_block.specs.Tally as tally
use Rattle.awari_block.specs.Cells.{view_of}
use Rattle.awari_block.specs.Blocks.{cell_in}
use Rattle.awari_block.specs.Part.{Part, InBlock, IsTallied, settled_at}
use Rattle.awari_heard.specs.Heard.{HearsTruth, Hears, IsSpread}
use Rattle.awari_block.specs.declared.cells.Cell.{Cell}
use Rattle.awari_block.specs.declared.notes.Note.{Note}

-- The blocks of these parts are the boards of the level from rank `low` up to, not including, rank `high`, one block after the
-- other.
abbrev pub AreBlocks : ℕ → ℕ → ℕ → List Part → Type 0
AreBlocks level low high [] = low ≡ high
AreBlocks level low high (part ∷ parts) = ((part.level ≡ level) × (part.start ≡ low)) × AreBlocks level (low + length part.cells) high parts

-- and all boards of the level
abbrev pub AreWhole : ℕ → List Part → Type 0
AreWhole level parts = AreBlocks level 0 (size_of level) parts

-- all boards of the level are in the part's block
pub record IsWhole (part : Part) : Type 0 where
  pub start : part.start ≡ 0
  pub all : length part.cells ≡ size_of part.level

-- the cells of all these blocks, and what they know of the board of this rank
abbrev pub all_cells : List Part → List Cell
all_cells parts = flat_map (λ part. part.cells) parts

abbrev pub known_at : List Part → ℕ → tally.Cell
known_at parts rank = view_of (cell_in 0 (all_cells parts) rank)

-- The cells of each part tell what some notes say, which are those of the spread boards of all parts.
abbrev pub AreHeard : (List ℕ → ℤ) → List Part → Type 0
AreHeard value parts = All (λ part. (notes : List Note) × IsTallied value part notes × All (λ source. Hears source part notes) parts) parts

-- The cells of each part tell what some notes say, which are notes of spread boards.
abbrev pub AreTold : (List ℕ → ℤ) → List Part → Type 0
AreTold value parts = All (λ part. (notes : List Note) × IsTallied value part notes × All (λ source. HearsTruth source part notes) parts) parts

abbrev pub no_part : Part
no_part = record { level = 0; gain = 0; wave = 0; start = 0; cells = []; fresh = [] }

abbrev pub part_at : List Part → ℕ → Part
part_at parts i = slice_index_or parts i no_part

-- ---- notes between the parts

-- m is a note that a spread board of the source gives to a board of the part
abbrev pub IsSpreadNote : Part → Part → Note → Type 0
IsSpreadNote source part m =
    (q : List ℕ) × (v : ℤ) × (d : ℕ) × (p : List ℕ) × (x : ℕ)
    × IsSpread source (rank_of q) v d × InBlock source (rank_of q) × IsBoard q × IsBoard p × (sum p ≡ part.level) × InBlock part (rank_of p) × IsNoteOf q v d p x m

-- ---- distances

-- settled distances are below the greatest that can be stored
abbrev pub DistancesFit : Part → Type 0
DistancesFit part = (rank : ℕ) (v : ℤ) (dist : ℕ) → InBlock part rank → settled_at part rank ≡ Some (v, dist) → dist < 2 ^ 32 - 1

-- and those of the notes of spread boards
abbrev pub NotesFit : Part → Type 0
NotesFit source = (part : Part) (note : Note) → IsSpreadNote source part note → note.dist < 2 ^ 32 - 1
