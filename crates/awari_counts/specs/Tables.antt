-- A table of numbers of boards, row by row. Private functions alone go by this: no public contract does.
use Rattle.std.specs.Prelude.{◌≡◌, ◌⊎◌, Bool, true, false, ℕ, ◌+◌, ◌*◌, ◌<◌, ◌≤◌, List, count_by, length, slice_get, slice_index, slice_index_or, take, ℤ, Option, Some, None, All, IsSomeAnd}
use Rattle.awari_folder.specs.Contents.{Stands}
use Rattle.awari_facts.specs.Numbers.{is_own, number_in}
use Rattle.awari_facts.specs.Sources.{images_of}
use Rattle.awari_facts.specs.declared.sources.Source.{Source}
use Rattle.awari_facts.specs.declared.sources.Source.TheVariants.{Memory, Files}
use Rattle.awari_folder.specs.declared.faults.FolderFault.{FolderFault}
use Rattle.awari_folder.specs.declared.faults.FolderFault.TheVariants as folder
use Rattle.awari_places.specs.Faults.{IsFaultFrom}
use Rattle.awari_places.specs.Places.{Says}
use Rattle.awari_verify.specs.declared.rules.Rule.TheVariants.{V7}
use Rattle.awari_verify.specs.declared.verdicts.VerifyFault.TheVariants.{Refused}
use Rattle.awari_queries.specs.declared.columns.Pair.{Pair}
use Rattle.awari_rank.specs.Rank.{size_of}
use Rattle.awari_rank.specs.Tuples.{tuples}
use Rattle.awari_table.specs.declared.images.Image.{Image}
use Rattle.awari_counts.specs.Pairs.{has_pair}
use Rattle.awari_counts.specs.Ranges.{number_at, width_of}
use Rattle.awari_counts.specs.declared.cells.Start.{Start}
use Rattle.awari_counts.specs.declared.tables.CellTable.{CellTable}

-- how many rows and columns the table has
abbrev pub rows_of : CellTable → ℕ
rows_of table = width_of table.limit table.pair.first

abbrev pub columns_of : CellTable → ℕ
columns_of table = width_of table.limit table.pair.second

abbrev pub cells_of : CellTable → ℕ
cells_of table = rows_of table * columns_of table

-- an entry and the rules say both numbers
abbrev pub IsOwn : Pair → Type 0
IsOwn pair = (is_own pair.first ≡ true) × (is_own pair.second ≡ true)

-- the cell of two numbers
pub record IsCell (table : CellTable) (first second : ℤ) (cell : ℕ) : Type 0 where
  pub row : ℕ
  pub column : ℕ
  pub row_inside : row < rows_of table
  pub column_inside : column < columns_of table
  pub first_is : first ≡ number_at table.pair.first row
  pub second_is : second ≡ number_at table.pair.second column
  pub is : cell ≡ row * columns_of table + column

-- that of a board's numbers
abbrev pub IsCellOf : List Image → CellTable → List ℕ → ℕ → Type 0
IsCellOf images table board cell = IsCell table (number_in images table.pair.first board) (number_in images table.pair.second board) cell

-- it has one
abbrev pub IsPlaced : List Image → CellTable → List ℕ → Type 0
IsPlaced images table board = (cell : ℕ) × IsCellOf images table board cell

-- Each of these boards has a cell, and each cell has the number of those of them that have its two numbers.
pub record AreTabled (images : List Image) (table : CellTable) (boards : List (List ℕ)) (counts : List ℕ) : Type 0 where
  pub placed : All (IsPlaced images table) boards
  pub each : (i j : ℕ) → i < rows_of table → j < columns_of table
      → slice_index counts (i * columns_of table + j) ≡ count_by (has_pair images table.pair.first table.pair.second (number_at table.pair.first i) (number_at table.pair.second j)) boards

-- this many boards of the level are counted
abbrev pub AreTabledTo : List Image → CellTable → ℕ → List ℕ → Type 0
AreTabledTo images table rank counts = AreTabled images table (take rank (tuples 12 table.level)) counts

-- the level of this number is there, and has an entry for each of its boards
abbrev pub IsSized : List Image → ℕ → Type 0
IsSized images level = IsSomeAnd (slice_get images level) (λ image. (image.level ≡ level) × (length image.entries ≡ size_of level))

-- 83 with V7 of a level
abbrev pub wrong_limit : ℕ → FolderFault
wrong_limit level = folder.Verify level (Refused 0 V7)

-- the board of a rank has no cell
pub record LacksCell (images : List Image) (table : CellTable) (rank : ℕ) : Type 0 where
  pub board : List ℕ
  pub listed : slice_get (tuples 12 table.level) rank ≡ Some board
  pub none : (cell : ℕ) → IsCellOf images table board cell → ⊥

-- some board of the level has none
abbrev pub HasNoCell : List Image → CellTable → Type 0
HasNoCell images table = (rank : ℕ) × LacksCell images table rank

-- Why the boards of a level in memory are not counted: 84, or 83 with V7 if a board has no cell.
abbrev pub IsHeldCountFault : List Image → CellTable → FolderFault → Type 0
IsHeldCountFault images table fault = (fault ≡ folder.Memory) ⊎ ((fault ≡ wrong_limit table.level) × HasNoCell images table)

-- Why the boards of a level are not counted by its file: 84, or as the entry of some rank is refused, or 83 with V7 if a board has no
-- cell.
abbrev pub IsCountFault : CellTable → Stands → FolderFault → Type 0
IsCountFault table stands fault = (fault ≡ folder.Memory) ⊎ (IsFaultFrom table.level 0 (stands table.level) fault
    ⊎ ((fault ≡ wrong_limit table.level) × ((levels : ℕ) (images : List Image) → Says stands levels images → table.level < levels → HasNoCell images table)))

-- The same by where the entries are read.
abbrev pub IsTableFault : Source → Stands → CellTable → FolderFault → Type 0
IsTableFault (Memory levels) stands table fault = IsHeldCountFault (images_of levels) table fault
IsTableFault (Files levels) stands table fault = IsCountFault table stands fault

-- the board of a rank is in this cell
pub record HasCell (images : List Image) (table : CellTable) (rank cell : ℕ) : Type 0 where
  pub inside : cell < cells_of table
  pub board : List ℕ
  pub listed : slice_get (tuples 12 table.level) rank ≡ Some board
  pub own : IsCellOf images table board cell

abbrev pub IsCellAt : List Image → CellTable → ℕ → Option ℕ → Type 0
IsCellAt images table rank None = LacksCell images table rank
IsCellAt images table rank (Some cell) = HasCell images table rank cell

-- these are the cells of successive ranks
pub record AreCellsFrom (images : List Image) (table : CellTable) (rank : ℕ) (found : List (Option ℕ)) : Type 0 where
  pub each : (k : ℕ) → k < length found → IsCellAt images table (rank + k) (slice_index_or found k None)

-- this many boards of a level follow from the segment's first one on
pub record HasBoards (images : List Image) (start : Start) (boards : ℕ) : Type 0 where
  pub known : start.table.level < length images
  pub inside : start.first + boards ≤ size_of start.table.level
  pub fits : start.first + boards < 4294967296

-- Whether this many boards from the segment's first one on are counted: some board has no cell if they are not.
abbrev pub CountsSegment : Bool → List Image → Start → ℕ → List ℕ → List ℕ → Type 0
CountsSegment true images start boards before after = AreTabledTo images start.table start.first before → AreTabledTo images start.table (start.first + boards) after
CountsSegment false images start boards before after = HasNoCell images start.table
