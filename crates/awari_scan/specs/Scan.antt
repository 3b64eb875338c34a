-- What is found of the boards of a level before any gain is open and any note is heard.
--
-- How to think of it. A capture leads to a board of fewer stones, whose value the shelf has; a quiet move
-- leads to a board of the same level, of which nothing is known yet. So a board's cell is the pits of its
-- quiet moves, and what its best captures gain. The pits are looked at one by one: IsOutlook says what is
-- found below pit k, and outlook_cell makes the cell of what is found below pit 6.
use Rattle.std.specs.Prelude.{◌≡◌, ℕ, ◌+◌, ◌^◌, ◌<◌, ◌≤◌, ◌==◌, ◌↔◌, ◌⊎◌, if◌then◌else◌, true, false, List, [], length, sum, take, count_by, ℤ, pos, ◌-ℤ◌, ◌≤ℤ◌, Option, Some, None}
use Rattle.awari_board.specs.Rules.{IsBoard, IsLegal, IsMove}
use Rattle.awari_rank.specs.Rank.{rank_of, size_of}
use Rattle.awari_block.specs.Tally as tally
use Rattle.awari_block.specs.Pits.{has_pit, pits}
use Rattle.awari_block.specs.Plain.{is_left, Captures}
use Rattle.awari_block.specs.Notes.{IsQuietMove}
use Rattle.awari_block.specs.Tally.{CapturesFrom}
use Rattle.awari_block.specs.Cells.{view_of, is_settled, IsWithin, FitsBy}
use Rattle.awari_block.specs.Blocks.{cell_in}
use Rattle.awari_block.specs.Part.{Part, InBlock, IsTallied, settled_at}
use Rattle.awari_table.specs.declared.TheConstants.{HIGHEST_LEVEL}
use Rattle.awari_block.specs.declared.cells.Cell.{Cell}

-- boards of fewer stones are worth at most their stones, either way
abbrev pub IsRanged : (List ℕ → ℤ) → ℕ → Type 0
IsRanged value n = (q : List ℕ) → IsBoard q → sum q < n → IsWithin (sum q) (value q)

-- what captures from boards of n stones gain is known by these values
pub record CanValue (value : List ℕ → ℤ) (n : ℕ) : Type 0 where
  pub low : n ≤ HIGHEST_LEVEL
  pub ranged : IsRanged value n

-- a capture of c of n stones leaves the board q
pub record CapturesTo (n c : ℕ) (q : List ℕ) : Type 0 where
  pub board : IsBoard q
  pub kept : sum q + c ≡ n
  pub some : 0 < c

-- the best that a capture from a pit below k gains, or none where none is legal
abbrev pub IsBestBelow : (List ℕ → ℤ) → List ℕ → ℕ → Option ℤ → Type 0
IsBestBelow value p k None = (x c : ℕ) (q : List ℕ) → x < k → IsMove p x c q → 0 < c → ⊥
IsBestBelow value p k (Some best) =
    Captures value p best × IsWithin (sum p) best × ((x c : ℕ) (q : List ℕ) → x < k → IsMove p x c q → 0 < c → (pos c -ℤ value q) ≤ℤ best)

-- how many pits below k are quiet moves, and what the best capture from one gains
pub record IsCounted (value : List ℕ → ℤ) (p : List ℕ) (k quiet : ℕ) (best : Option ℤ) : Type 0 where
  pub few : quiet ≤ k
  pub counted : quiet ≡ count_by (is_left p []) (take k pits)
  pub best_below : IsBestBelow value p k best

-- of the pits below k these are those whose captures gain the best
abbrev pub ArePlansBelow : (List ℕ → ℤ) → List ℕ → ℕ → Option ℤ → ℕ → Type 0
ArePlansBelow value p k None plans = Unit {0}
ArePlansBelow value p k (Some best) plans = (x : ℕ) → x < 6 → (has_pit plans x ≡ true) ↔ ((x < k) × CapturesFrom value p x best)

-- and of these pits, which are quiet moves, and which are of the best captures
pub record IsOutlook (value : List ℕ → ℤ) (p : List ℕ) (k quiet : ℕ) (best : Option ℤ) (plans : ℕ) : Type 0 where
  pub counted : (count : ℕ) × IsCounted value p k count best
  pub few : quiet < 2 ^ 6
  pub quiet_below : (x : ℕ) → x < 6 → (has_pit quiet x ≡ true) ↔ ((x < k) × ((q : List ℕ) × IsQuietMove p x q))
  pub plans_below : ArePlansBelow value p k best plans

-- the cell, once all six pits are found, where an end would gain this
abbrev pub outlook_cell : ℕ → Option ℤ → ℕ → ℤ → tally.Cell
outlook_cell quiet None plans gain = record { left = quiet; status = if quiet == 0 then tally.Ended gain else tally.Open tally.Nothing 0 0 }
outlook_cell quiet (Some best) plans gain = record { left = quiet; status = tally.Open (tally.ByCapture best) plans 0 }

-- the cell of a board of which no note was heard, before any gain is open
pub record IsScannedCell (value : List ℕ → ℤ) (p : List ℕ) (c : Cell) : Type 0 where
  pub fits : (t : ℕ) → FitsBy c.mark (sum p) t c.score c.dist
  pub unsettled : is_settled c.mark ≡ false
  pub tallied : tally.IsTally value (view_of c) p [] (sum p + 1) 0

-- these are the cells of the boards of n stones from rank `start` up to, not including, rank `end`
abbrev pub AreScanned : (List ℕ → ℤ) → ℕ → ℕ → ℕ → List Cell → Type 0
AreScanned value n start end cells = (p : List ℕ) → IsBoard p → sum p ≡ n → start ≤ rank_of p → rank_of p < end → IsScannedCell value p (cell_in start cells (rank_of p))

-- Of the pits below k these are the legal ones, and those of `near` are quiet moves.
pub record AreMovesBelow (p : List ℕ) (k near far : ℕ) : Type 0 where
  pub quiet : (x : ℕ) → has_pit near x ≡ true → (q : List ℕ) × IsQuietMove p x q
  pub legal : (x : ℕ) → has_pit far x ≡ true → IsLegal p x
  pub all : (x : ℕ) → x < k → IsLegal p x → (has_pit near x ≡ true) ⊎ (has_pit far x ≡ true)

-- what is needed to scan this many boards of n stones from rank `first` on, by these values and an index of this level
pub record CanScan (value : List ℕ → ℤ) (n index first boards : ℕ) : Type 0 where
  pub values : CanValue value n
  pub level : index ≡ n
  pub within : first + boards ≤ size_of n
  pub short : first + boards < 2 ^ 32

-- The boards of n stones from rank `first` up to, not including, rank `last`, with no gain open: no note was heard, and no board is
-- settled.
pub record IsScannedPart (value : List ℕ → ℤ) (n first last : ℕ) (part : Part) : Type 0 where
  pub level : part.level ≡ n
  pub gain : part.gain ≡ n + 1
  pub wave : part.wave ≡ 0
  pub start : part.start ≡ first
  pub end : part.start + length part.cells ≡ last
  pub fresh : part.fresh ≡ []
  pub unsettled : (rank : ℕ) → InBlock part rank → settled_at part rank ≡ None
  pub tallied : IsTallied value part []
