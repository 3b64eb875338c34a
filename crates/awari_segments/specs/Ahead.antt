-- What is read ahead: of the boards that are searched next, and of those that hear next.
use Rattle.std.specs.Prelude.{◌≡◌, ℕ, ◌/◌, ◌<◌, Bool, true, false, List, length, slice_index_or, sum}
use Rattle.awari_board.specs.Rules.{IsBoard}
use Rattle.awari_rank.specs.Rank.{rank_of}
use Rattle.awari_block.specs.Cells.{is_settled}
use Rattle.awari_block.specs.Part.{Part, stored_at}

-- where this is true, the board of the code at the same index is settled
abbrev pub TellSettled : Part → List ℕ → List Bool → Type 0
TellSettled part codes settled =
    (k : ℕ) → k < length codes → slice_index_or settled k false ≡ true → is_settled (stored_at part (slice_index_or codes k 0 / 8)).mark ≡ true

-- this is the board of the level that has this rank
abbrev pub IsBoardOf : ℕ → ℕ → List ℕ → Type 0
IsBoardOf level rank board = IsBoard board × (sum board ≡ level) × (rank_of board ≡ rank)

-- at the index of each rank its board stands
abbrev pub AreBoards : ℕ → List ℕ → List (List ℕ) → Type 0
AreBoards level ranks boards = (k : ℕ) (d : List ℕ) → k < length ranks → IsBoardOf level (slice_index_or ranks k 0) (slice_index_or boards k d)
