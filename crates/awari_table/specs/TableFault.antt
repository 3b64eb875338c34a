-- Where a text has a fault. All of it is said by how images are spelled. A spelled line ends in its only line feed, so a first
-- line that is not of a form is one that no spelling of that form begins.
use Rattle.std.specs.Prelude.{◌≡◌, ◌≢◌, ◌⊎◌, ℕ, ◌+◌, ◌<◌, ◌≤◌, ◌^◌, Bool, true, false, List, ◌++◌, length, ◌==◌, codes}
use Rattle.std.specs.List.{list_any, flat_map, AllByRecursion}
use Rattle.awari_faults.specs.Refusals.{Words, alone, with_number}
use Rattle.awari_rank.specs.Rank.{size_of}
use Rattle.awari_table.specs.declared.TheConstants.{HIGHEST_LEVEL}
use Rattle.awari_table.specs.declared.images.Entry.{Entry}
use Rattle.awari_table.specs.declared.faults.TableFault.{TableFault}
use Rattle.awari_table.specs.declared.faults.TableFault.TheVariants.{Line, Order, High, Short, Memory}
use Rattle.awari_table.specs.Spelling.{entry_line, header_line, IsEntry}

-- what is told of each
abbrev pub reason_of : TableFault → Words
reason_of (Line line) = with_number 10 (codes "line") line
reason_of (Order line) = with_number 11 (codes "line") line
reason_of (High line) = with_number 12 (codes "line") line
reason_of Short = alone 13
reason_of Memory = alone 15

abbrev pub number_of : TableFault → ℕ
number_of fault = (reason_of fault).number

abbrev pub has_line_feed : List ℕ → Bool
has_line_feed bytes = list_any (λ b. b == 10) bytes

-- the bytes begin with a header
pub record Opens (bytes : List ℕ) (level limit : ℕ) (rest : List ℕ) : Type 0 where
  pub level_fits : level < 256
  pub limit_fits : limit < 2 ^ 32
  pub parts : bytes ≡ header_line level limit ++ rest

-- the bytes begin with the level's header and these entries, and more are due
pub record IsInside (level : ℕ) (bytes : List ℕ) (limit : ℕ) (entries : List Entry) (rest : List ℕ) : Type 0 where
  pub low : level ≤ HIGHEST_LEVEL
  pub limit_fits : limit < 2 ^ 32
  pub fits : AllByRecursion IsEntry entries
  pub due : length entries < size_of level
  pub parts : bytes ≡ header_line level limit ++ (flat_map entry_line entries ++ rest)

-- the first line is not of the form that is due
abbrev pub IsNoHeader : List ℕ → Type 0
IsNoHeader bytes = (level limit : ℕ) (rest : List ℕ) → Opens bytes level limit rest → ⊥

abbrev pub IsNoEntry : List ℕ → Type 0
IsNoEntry bytes = (e : Entry) (rest : List ℕ) → IsEntry e → bytes ≡ entry_line e ++ rest → ⊥

-- The fault of bytes at which the header of a level is due, on a line of this number.
abbrev pub IsDueAt : ℕ → ℕ → List ℕ → TableFault → Type 0
-- the line has no line feed: where the header is due, or where an entry is
IsDueAt level line bytes Short =
    (has_line_feed bytes ≡ false)
    ⊎ ((limit : ℕ) × (entries : List Entry) × (rest : List ℕ) × IsInside level bytes limit entries rest × (has_line_feed rest ≡ false))
-- the line has its line feed, and is not of the form that is due: no header, or no entry
IsDueAt level line bytes (Line n) =
    ((n ≡ line) × (has_line_feed bytes ≡ true) × IsNoHeader bytes)
    ⊎ ((limit : ℕ) × (entries : List Entry) × (rest : List ℕ) × IsInside level bytes limit entries rest
    × (n ≡ line + 1 + length entries) × (has_line_feed rest ≡ true) × IsNoEntry rest)
-- a header of a level above the highest
IsDueAt level line bytes (High n) = (n ≡ line) × (other limit : ℕ) × (rest : List ℕ) × Opens bytes other limit rest × (HIGHEST_LEVEL < other)
-- a header of a level that is not the one due
IsDueAt level line bytes (Order n) =
    (n ≡ line) × (other limit : ℕ) × (rest : List ℕ) × Opens bytes other limit rest × (other ≤ HIGHEST_LEVEL) × (other ≢ level)
-- the level's header, for whose entries room is then taken
IsDueAt level line bytes Memory = (limit : ℕ) × (rest : List ℕ) × Opens bytes level limit rest × (level ≤ HIGHEST_LEVEL)
