-- The command `plays`: how many plays of a length there are from a board, how many of them end with a capture, and how many end
-- the play. A play that ends sooner is not of that length.
use Rattle.std.specs.Prelude.{◌≡◌, ℕ, ◌≤◌, ◌^◌, nat_lt, if◌then◌else◌, zero, suc, List, ◌++◌, ◌∷◌, [], codes, Option}
use Rattle.std.specs.Fmt.{decimal}
use Rattle.std.specs.Io.KnownBytes.{Appends}
use Rattle.awari_answers.specs.declared.asked.NoAnswer.{NoAnswer}
use Rattle.awari_answers.specs.declared.asked.NoAnswer.TheVariants.{Board, Memory, Overflow}
use Rattle.awari_board.specs.BoardFault.{IsFaulty}
use Rattle.awari_board.specs.Rules.{IsBoard, captured, next_board}
use Rattle.awari_board.specs.Tests.{is_ended, is_legal}
use Rattle.awari_board.specs.Text.{text_of}
use Rattle.awari_rank.specs.Tuples.{total}
use Rattle.awari_boards.specs.declared.sums.PlayCounts.{PlayCounts}

-- a number of what the move from pit x captures and of the board that it leaves; 0 where it is not legal
unfoldable pub by_move : (ℕ → List ℕ → ℕ) → List ℕ → ℕ → ℕ
by_move number board x = if is_legal board x then number (captured board x) (next_board board x) else 0

-- The sum, over all plays of n plies, of a number of what the last ply captured and of the board that it left: a play of one ply
-- more is a legal move and a play from the board that it leaves. `before` is what was captured before a play of no ply.
unfoldable pub over_plays : (ℕ → List ℕ → ℕ) → ℕ → ℕ → List ℕ → ℕ
over_plays number zero before board = number before board
over_plays number (suc n) before board = total (by_move (over_plays number n) board) 6

-- each play is one
abbrev pub one : ℕ → List ℕ → ℕ
one last board = 1

-- one where the last ply captured
abbrev pub one_if_captures : ℕ → List ℕ → ℕ
one_if_captures last board = if nat_lt 0 last then 1 else 0

-- one where play has ended
abbrev pub one_if_ended : ℕ → List ℕ → ℕ
one_if_ended last board = if is_ended board then 1 else 0

-- how many plays of n plies there are, how many of these end with a capture, and how many lead to the end of play
pub record AreCounts (n before : ℕ) (board : List ℕ) (counts : PlayCounts) : Type 0 where
  pub plays : counts.plays ≡ over_plays one n before board
  pub captures : counts.captures ≡ over_plays one_if_captures n before board
  pub ends : counts.ends ≡ over_plays one_if_ended n before board

-- the plays are the greatest of the three numbers
pub record PlaysAreMost (counts : PlayCounts) : Type 0 where
  pub captures : counts.captures ≤ counts.plays
  pub ends : counts.ends ≤ counts.plays

-- the text spells a board with this many plays
abbrev pub IsCounted : List ℕ → ℕ → PlayCounts → Type 0
IsCounted text n counts = (board : List ℕ) × IsBoard board × (text ≡ text_of board) × AreCounts n 0 board counts

-- There are too many plays of a board for 64 bits, or memory ran out.
abbrev pub IsUncounted : ℕ → ℕ → List ℕ → NoAnswer → Type 0
IsUncounted n before board Overflow = 2 ^ 64 ≤ over_plays one n before board
IsUncounted n before board Memory = Unit {0}
IsUncounted n before board other = ⊥

-- the fault of the text, or where it is that of a board, why its plays are not counted
abbrev pub IsNotCounted : List ℕ → ℕ → NoAnswer → Type 0
IsNotCounted text n (Board fault) = IsFaulty text fault
IsNotCounted text n Overflow = (board : List ℕ) × IsBoard board × (text ≡ text_of board) × IsUncounted n 0 board Overflow
IsNotCounted text n Memory = (board : List ℕ) × IsBoard board × (text ≡ text_of board)
IsNotCounted text n other = ⊥

abbrev pub counts_text : PlayCounts → List ℕ
counts_text counts = codes "plays " ++ decimal counts.plays ++ codes " captures " ++ decimal counts.captures ++ codes " ends " ++ decimal counts.ends

-- Where it is known what the writer holds, what was written are the counts of plays of n plies from the board that the text spells,
-- and the line feed.
abbrev pub PrintsPlays : List ℕ → ℕ → Option (List ℕ) → Option (List ℕ) → Type 0
PrintsPlays text n before after = (counts : PlayCounts) × IsCounted text n counts × Appends before after (counts_text counts ++ 10 ∷ [])
