-- The command `move`: a move played on a board that is given as text, and what is printed of it.
use Rattle.std.specs.Prelude.{◌≡◌, ℕ, List, ◌++◌, ◌∷◌, [], Option}
use Rattle.std.specs.Fmt.{decimal}
use Rattle.std.specs.Io.KnownBytes.{Appends}
use Rattle.awari_board.specs.BoardFault.{IsFaulty}
use Rattle.awari_board.specs.MoveFault.{IsDue}
use Rattle.awari_board.specs.Rules.{IsBoard, IsMove}
use Rattle.awari_board.specs.Text.{text_of}
use Rattle.awari_board.specs.declared.moves.Moved.{Moved}
use Rattle.awari_answers.specs.declared.asked.NoAnswer.{NoAnswer}
use Rattle.awari_answers.specs.declared.asked.NoAnswer.TheVariants.{Board, Move}

-- the text is that of a board, and the move from this pit of it captures this many stones and leaves that board
abbrev pub IsPlayed : List ℕ → ℕ → Moved → Type 0
IsPlayed text pit moved = (board : List ℕ) × IsBoard board × (text ≡ text_of board) × IsMove board pit moved.captured moved.board

-- the fault of the text, or where it is that of a board, the fault of the move
abbrev pub IsPlayFault : List ℕ → ℕ → NoAnswer → Type 0
IsPlayFault text pit (Board fault) = IsFaulty text fault
IsPlayFault text pit (Move fault) = (board : List ℕ) × IsBoard board × (text ≡ text_of board) × IsDue board pit fault
IsPlayFault text pit other = ⊥

abbrev pub play_text : Moved → List ℕ
play_text moved = text_of moved.board ++ 32 ∷ decimal moved.captured

-- Where it is known what the writer holds, what was written is the move from this pit of the board that the text spells, and the
-- line feed.
abbrev pub PrintsMove : List ℕ → ℕ → Option (List ℕ) → Option (List ℕ) → Type 0
PrintsMove text pit before after = (moved : Moved) × IsPlayed text pit moved × Appends before after (play_text moved ++ 10 ∷ [])
