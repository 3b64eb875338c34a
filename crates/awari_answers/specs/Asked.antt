-- The levels in a folder, the commands that ask them about one board, and why a command gives no answer.
use Rattle.std.specs.Prelude.{◌≡◌, ℕ, List, [], ◌∷◌, Option, Result, Err, codes, min, sum}
use Rattle.awari_board.specs.BoardFault.{IsFaulty, reason_of as board_reason_of}
use Rattle.awari_board.specs.MoveFault.{number_of, reason_of as move_reason_of}
use Rattle.awari_board.specs.Rules.{IsBoard}
use Rattle.awari_board.specs.Text.{text_of}
use Rattle.awari_faults.specs.Refusals.{Words, alone, with_number}
use Rattle.awari_folder.specs.Contents.{AreNames, IsFaultTo, IsStoredToIn, OpenIfRefused, Refusals, Stands}
use Rattle.awari_folder.specs.FolderFault.{refusal_of as folder_refusal_of}
use Rattle.awari_folder.specs.State.{State, Unchanged}
use Rattle.awari_folder.specs.declared.faults.FolderFault.{FolderFault}
use Rattle.awari_play.specs.LineFault.{reason_of as line_reason_of}
use Rattle.awari_table.specs.NotYet.{reason_of as not_yet_reason_of}
use Rattle.awari_table.specs.Shelves.{IsShelf}
use Rattle.awari_table.specs.declared.TheConstants.{HIGHEST_LEVEL}
use Rattle.awari_table.specs.declared.images.Image.{Image}
use Rattle.awari_answers.specs.declared.asked.NoAnswer.{NoAnswer}
use Rattle.awari_answers.specs.declared.asked.NoAnswer.TheVariants.{Board, Move, MoveAt, Folder, NotYet, Line, Memory, NoRank, Overflow, Span, Column}

-- These are right levels: those up to this one that the folder stores, where it is known what its names have.
pub record AreLevelsTo (most : ℕ) (stands : Stands) (images : List Image) : Type 0 where
  pub digest : List ℕ
  pub stored : IsStoredToIn most stands images digest
  pub right : IsShelf images

-- Where it is known what the names have, this is the first fault of the levels up to this one.
abbrev pub IsUnloaded : Type 0 → ℕ → Stands → FolderFault → Type 0
IsUnloaded lacked most stands fault = (names : ℕ → Option (List ℕ)) → AreNames stands names → IsFaultTo lacked most names fault

-- The text spells this board, and these are the levels up to the board's.
pub record IsAsked (stands : Stands) (text : List ℕ) (images : List Image) (board : List ℕ) : Type 0 where
  pub levels : AreLevelsTo (min (sum board) HIGHEST_LEVEL) stands images
  pub whole : IsBoard board
  pub spelled : text ≡ text_of board

-- what is told of the calls that a folder refused
abbrev pub TellsOpen : {T : Type 0} → Result T NoAnswer → Refusals → Refusals → Type 0
TellsOpen (Err (Folder fault)) old new = OpenIfRefused {T = Unit {0}} (Err fault) old new
TellsOpen result old new = new ≡ old

-- the text is no board, or the levels up to its board's are refused
abbrev pub IsUnasked : Type 0 → Stands → List ℕ → NoAnswer → Type 0
IsUnasked lacked stands text (Board fault) = IsFaulty text fault
IsUnasked lacked stands text (Folder fault) = (board : List ℕ) × (text ≡ text_of board) × IsUnloaded lacked (min (sum board) HIGHEST_LEVEL) stands fault
IsUnasked lacked stands text fault = ⊥

-- Nothing is changed in the folder. If its fault is told, 82 is told if it refused a call, and only then.
pub record OnlyAsks {T : Type 0} (result : Result T NoAnswer) (old new : State) : Type 0 where
  pub unchanged : Unchanged old new
  pub refused : TellsOpen result old.refusals new.refusals

-- what is told of it: what is told of the fault inside, and the number of a move among several
abbrev pub refusal_of : NoAnswer → List Words
refusal_of (Board fault) = board_reason_of fault ∷ []
refusal_of (Move fault) = move_reason_of fault ∷ []
refusal_of (MoveAt fault n) = with_number (number_of fault) (codes "at") n ∷ []
refusal_of (Folder fault) = folder_refusal_of fault
refusal_of (NotYet fault) = not_yet_reason_of fault ∷ []
refusal_of (Line fault) = line_reason_of fault ∷ []
refusal_of Memory = alone 84 ∷ []
refusal_of (NoRank boards) = with_number 93 (codes "boards") boards ∷ []
refusal_of Overflow = alone 94 ∷ []
refusal_of (Span fault) = alone 95 ∷ []
refusal_of (Column fault) = alone 96 ∷ []
