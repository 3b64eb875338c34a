-- The segments of a level, the notes that they hear, and how those are found.
--
-- How to think of it. A segment has `span` boards, the last one fewer, so a board's rank tells its segment
-- (AreSegments). The notes of the boards that are spread in a turn are found first: for each segment the
-- codes of their predecessors, each once (FindsFor). Then each segment hears its codes, those of lost
-- boards before those of won ones.
use Rattle.std.specs.Prelude.{◌≡◌, ℕ, ◌+◌, ◌/◌, ◌%◌, ◌==◌, ◌-◌, ◌^◌, ◌<◌, ◌≤◌, List, [], ◌∷◌, ◌++◌, length, map, filter, sum, ℤ, All}
use Rattle.awari_board.specs.Rules.{IsBoard}
use Rattle.awari_rank.specs.Rank.{rank_of, size_of}
use Rattle.awari_unmove.specs.Predecessors.{IsPredecessors}
use Rattle.awari_block.specs.Blocks.{due_dist}
use Rattle.awari_block.specs.Part.{Part, InBlock}
use Rattle.awari_block.specs.Boards.{Settles}
use Rattle.awari_block.specs.declared.notes.Kind.{Kind}
use Rattle.awari_block.specs.declared.notes.Kind.TheVariants.{Won, Lost}
use Rattle.awari_block.specs.declared.notes.Note.{Note}
use Rattle.awari_block.specs.declared.stakes.Stake.{Stake}
use Rattle.awari_scan.specs.Found.{Source, code_of}
use Rattle.awari_heard.specs.Level.{AreHeard, AreWhole, part_at}
use Rattle.awari_segments.specs.Each.{NoneAreFresh}
use Rattle.awari_segments.specs.Lists.{list_at}

-- the note of this code at the open gain and wave
abbrev pub note_by : Stake → Kind → ℕ → Note
note_by stake kind code = record { level = stake.level; target = code / 8; pit = code % 8; kind = kind; gain = stake.gain; dist = stake.wave }

-- the notes of these codes, and those of lost boards and then of won ones
abbrev pub notes_by : Stake → Kind → List ℕ → List Note
notes_by stake kind codes = map (note_by stake kind) codes

abbrev pub both_by : Stake → List ℕ → List ℕ → List Note
both_by stake lost won = notes_by stake Lost lost ++ notes_by stake Won won

-- the board of this code is in the block, and the pit is its mover's
abbrev pub IsCodeFor : Part → ℕ → Type 0
IsCodeFor part code = InBlock part (code / 8) × (code % 8 < 6)

-- a gain is open, and the open wave is not the greatest that can be stored
abbrev pub IsReady : Part → Type 0
IsReady part = (part.gain ≤ part.level) × (part.wave < 2 ^ 32 - 1)

-- all fresh boards are farther than the open wave
abbrev pub IsPassed : Part → Type 0
IsPassed part = All (λ f. part.wave < due_dist f) part.fresh

-- the part is settled further, and if all its fresh boards were farther they are so still
pub record SettlesPast (old new : Part) : Type 0 where
  pub settles : Settles old new
  pub passed : IsPassed old → IsPassed new

-- ---- what is found

-- the boards of these ranks, in turn, have these predecessors: each all of its own, each once
abbrev pub AreSourcesOf : ℕ → List ℕ → List Source → Type 0
AreSourcesOf level [] sources = sources ≡ []
AreSourcesOf level (rank ∷ ranks) sources =
    (q : List ℕ) × (own : List Source) × (others : List Source) × IsBoard q × (sum q ≡ level) × (rank_of q ≡ rank) × IsPredecessors q own × AreSourcesOf level ranks others
    × (sources ≡ own ++ others)

-- the codes of those that are for this block
abbrev pub codes_to : ℕ → ℕ → List Source → List ℕ
codes_to span to sources = map code_of (filter (λ y. rank_of y.0 / span == to) sources)

-- one note to each predecessor of the boards of these ranks, for each block in its list, and no others
abbrev pub FindsFor : ℕ → ℕ → List ℕ → (ℕ → List ℕ) → Type 0
FindsFor level span ranks lists = (sources : List Source) × AreSourcesOf level ranks sources × ((to : ℕ) → lists to ≡ codes_to span to sources)

-- for each block its notes are put behind its list
abbrev pub Puts : ℕ → List Source → List (List ℕ) → List (List ℕ) → Type 0
Puts span sources old new = (to : ℕ) → list_at new to ≡ list_at old to ++ codes_to span to sources

-- one note to each predecessor of the boards of these ranks, in the list of its block, and no others
abbrev pub Finds : ℕ → ℕ → List ℕ → List (List ℕ) → List (List ℕ) → Type 0
Finds level span ranks old new = (sources : List Source) × AreSourcesOf level ranks sources × Puts span sources old new

-- what a search needs
pub record CanFind (level span : ℕ) (ranks : List ℕ) : Type 0 where
  pub low : level ≤ 24
  pub inside : All (λ rank. rank < size_of level) ranks
  pub blocks : 0 < span

-- ---- all segments

-- Blocks of `span` boards: the board of each rank is in the block that its rank tells, and in no other.
pub record AreSegments (stake : Stake) (span : ℕ) (parts : List Part) : Type 0 where
  pub level : (i : ℕ) → i < length parts → (part_at parts i).level ≡ stake.level
  pub gain : (i : ℕ) → i < length parts → (part_at parts i).gain ≡ stake.gain
  pub wave : (i : ℕ) → i < length parts → (part_at parts i).wave ≡ stake.wave
  pub within : (i : ℕ) → i < length parts → (part_at parts i).start + length (part_at parts i).cells ≤ size_of stake.level
  pub home : (rank : ℕ) → rank < size_of stake.level → (rank / span < length parts) × InBlock (part_at parts (rank / span)) rank
  pub only : (i rank : ℕ) → i < length parts → InBlock (part_at parts i) rank → rank / span ≡ i

-- All boards of n stones in blocks of `span` boards, as they are scanned: no gain is open, no board is fresh, and no note was heard.
pub record AreScannedSegments (value : List ℕ → ℤ) (n span : ℕ) (parts : List Part) : Type 0 where
  pub grid : AreSegments (record { level = n; gain = n + 1; wave = 0 }) span parts
  pub whole : AreWhole n parts
  pub idle : NoneAreFresh parts
  pub heard : AreHeard value parts
  pub numbers : (1 ≤ length parts) × (length parts < 2 ^ 32)
