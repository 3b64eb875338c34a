-- The boards of a level by runs. The boards of a run have the same pits 0 to 5, and so as many stones in pits 6 to 11. In order of
-- rank these have all fillings, from that with all stones in pit 11 to that with all in pit 6.
use Rattle.std.specs.Prelude.{◌≡◌, ℕ, ◌+◌, ◌-◌, ◌*◌, ◌<◌, ◌≤◌, List, [], ◌∷◌, ◌++◌, length, map, sum, take, drop, slice_index_or}
use Rattle.awari_board.specs.Rules.{IsBoard}
use Rattle.awari_rank.specs.Fillings.{last_of, none}
use Rattle.awari_rank.specs.Rank.{rank_of}
use Rattle.awari_index.specs.declared.runs.Run.{Run}

-- the board of n stones that has this rank
pub record IsBoardAt (n r : ℕ) (p : List ℕ) : Type 0 where
  pub board : IsBoard p
  pub stones : sum p ≡ n
  pub rank : rank_of p ≡ r

-- six pits that have k stones in the last
abbrev pub first_of : ℕ → List ℕ
first_of k = 0 ∷ 0 ∷ 0 ∷ 0 ∷ 0 ∷ k ∷ []

-- ---- fillings of pits 6 to 11

-- the board of rank j with k stones, all of them in pits 6 to 11
pub record IsTail (k j : ℕ) (p : List ℕ) : Type 0 where
  pub at : IsBoardAt k j p
  pub own : take 6 p ≡ none

abbrev pub board_in : List (List ℕ) → ℕ → List ℕ
board_in boards i = slice_index_or boards i []

-- from place `low` up to, not including, place `high` of these boards are all such of k stones, in order of rank
pub record AreTails (k low high : ℕ) (boards : List (List ℕ)) : Type 0 where
  pub some : low < high
  pub within : high ≤ length boards
  pub each : (j : ℕ) → j < high - low → IsTail k j (board_in boards (low + j))
  pub last : board_in boards (high - 1) ≡ none ++ last_of k

-- and for each number of stones below n they begin at this place, and end where those of one stone more begin
pub record AreAllTails (n : ℕ) (starts : List ℕ) (boards : List (List ℕ)) : Type 0 where
  pub long : length starts ≡ n + 1
  pub each : (k : ℕ) → k < n → AreTails k (slice_index_or starts k 0) (slice_index_or starts (k + 1) 0) boards

-- where those of k stones begin and end, and that they are there
pub record AreTailsAt (k : ℕ) (starts : List ℕ) (boards : List (List ℕ)) : Type 0 where
  pub listed : k + 1 < length starts
  pub tails : AreTails k (slice_index_or starts k 0) (slice_index_or starts (k + 1) 0) boards

-- ---- runs

-- the first board of a run of the level of n stones, and its rank
pub record IsHead (n : ℕ) (run : Run) : Type 0 where
  pub at : IsBoardAt n run.start run.board
  pub rest : drop 6 run.board ≡ first_of run.stones

-- how many fillings there are of k stones
abbrev pub fillings : List ℕ → ℕ → ℕ
fillings starts k = slice_index_or starts (k + 1) 0 - slice_index_or starts k 0

-- where each run begins, and where the last one ends
abbrev pub starts_to : List Run → ℕ → List ℕ
starts_to runs end = map (λ r. r.start) runs ++ end ∷ []

abbrev pub no_run : Run
no_run = record { board = []; start = 0; stones = 0 }

-- these are the runs of the boards of n stones of a rank below `end`, one after the other
pub record AreRuns (n : ℕ) (starts : List ℕ) (runs : List Run) (end : ℕ) : Type 0 where
  pub first : slice_index_or (starts_to runs end) 0 0 ≡ 0
  pub head : (i : ℕ) → i < length runs → IsHead n (slice_index_or runs i no_run)
  pub next : (i : ℕ) → i < length runs
      → slice_index_or (starts_to runs end) (i + 1) 0 ≡ (slice_index_or runs i no_run).start + fillings starts (slice_index_or runs i no_run).stones

-- ---- stretches

-- Boards of n stones, one after the other in rank from rank r on: those that have the own pits of this head and the other pits of
-- one of these tails.
pub record IsStretch (n r : ℕ) (head : List ℕ) (tails : List (List ℕ)) : Type 0 where
  pub board : IsBoard head
  pub stones : sum head ≡ n
  pub some : 0 < length tails
  pub each : (k : ℕ) → k < length tails → IsBoardAt n (r + k) (take 6 head ++ drop 6 (board_in tails k))

-- the last of these has all its stones in pit 6, with which each run ends
abbrev pub EndsRun : List (List ℕ) → Type 0
EndsRun tails = (k : ℕ) × (board_in tails (length tails - 1) ≡ none ++ last_of k)

-- ---- windows

-- for each rank that is a multiple of `width` a run that begins there or earlier
abbrev pub AreWindows : ℕ → ℕ → List Run → List ℕ → Type 0
AreWindows width size runs windows =
    (w : ℕ) → w * width < size → (w < length windows) × (slice_index_or windows w 0 < length runs) × ((slice_index_or runs (slice_index_or windows w 0) no_run).start ≤ w * width)

-- the fillings of k stones are put behind these boards
pub record PushesTails (k : ℕ) (old new : List (List ℕ)) : Type 0 where
  pub kept : (i : ℕ) → i < length old → board_in new i ≡ board_in old i
  pub tails : AreTails k (length old) (length new) new
