-- Why a command that looks a board up gives no answer: over right levels in a folder, or unverified, by what its files say.
use Rattle.std.specs.Prelude.{◌≡◌, ◌⊎◌, ℕ, ◌<◌, ◌≤◌, Bool, false, true, List, length, min, sum}
use Rattle.awari_folder.specs.Contents.{Stands}
use Rattle.awari_board.specs.BoardFault.{IsFaulty}
use Rattle.awari_board.specs.Text.{text_of}
use Rattle.awari_folder.specs.declared.faults.FolderFault.{FolderFault}
use Rattle.awari_places.specs.Opening.{CountsOpened, IsUnopened}
use Rattle.awari_places.specs.declared.opening.Opened.{Opened}
use Rattle.awari_play.specs.LineFault.{IsDue}
use Rattle.awari_table.specs.declared.TheConstants.{HIGHEST_LEVEL}
use Rattle.awari_table.specs.declared.images.Image.{Image}
use Rattle.awari_answers.specs.Asked.{IsAsked, IsUnasked}
use Rattle.awari_answers.specs.declared.asked.NoAnswer.{NoAnswer}
use Rattle.awari_answers.specs.declared.asked.NoAnswer.TheVariants.{Board, Folder, Line, NotYet}
use Rattle.awari_boards.specs.Known.{IsOpened}

-- 59, or 56 for a line, with the number of levels, which is no more than this level. Or it is more, and a line finds no memory: 57.
abbrev pub IsBeyond : Bool → ℕ → ℕ → NoAnswer → Type 0
IsBeyond false levels level (NotYet fault) = (fault.levels ≡ levels) × (levels ≤ level)
IsBeyond true levels level (Line fault) = IsDue levels level fault
IsBeyond line levels level fault = ⊥

-- The text spells a board, and the right levels up to the board's are refused so.
pub record IsUnshelved (line : Bool) (stands : Stands) (text : List ℕ) (fault : NoAnswer) : Type 0 where
  pub images : List Image
  pub board : List ℕ
  pub asked : IsAsked stands text images board
  pub due : IsBeyond line (length images) (sum board) fault

-- the text is no board, or the headers of the files up to its board's level are refused
abbrev pub IsUnopenedFor : Stands → List ℕ → NoAnswer → Type 0
IsUnopenedFor stands text (Board fault) = IsFaulty text fault
IsUnopenedFor stands text (Folder fault) = (board : List ℕ) × (text ≡ text_of board) × IsUnopened (min (sum board) HIGHEST_LEVEL) stands fault
IsUnopenedFor stands text fault = ⊥

-- The text spells a board, and the board's level is not there by the headers.
pub record IsNotThere (line : Bool) (stands : Stands) (text : List ℕ) (fault : NoAnswer) : Type 0 where
  pub board : List ℕ
  pub levels : ℕ
  pub spelled : text ≡ text_of board
  pub counted : CountsOpened (sum board) stands levels
  pub few : levels ≤ sum board
  pub due : IsBeyond line levels (sum board) fault

-- The text spells a board, and the board's level is there. The refusal is of files of these levels, and due for the board.
pub record IsUnreadFor (stands : Stands) (text : List ℕ) (Due : ℕ → List ℕ → FolderFault → Type 0) (fault : NoAnswer) : Type 0 where
  pub board : List ℕ
  pub levels : Opened
  pub opened : IsOpened stands text board levels
  pub known : sum board < levels.levels
  pub inner : FolderFault
  pub told : fault ≡ Folder inner
  pub due : Due levels.levels board inner

-- of a line or not, by right levels or unverified
abbrev pub IsUnknown : Bool → Bool → Type 0 → Stands → List ℕ → (ℕ → List ℕ → FolderFault → Type 0) → NoAnswer → Type 0
IsUnknown line false lacked stands text Due fault = IsUnasked lacked stands text fault ⊎ IsUnshelved line stands text fault
IsUnknown line true lacked stands text Due fault = IsUnopenedFor stands text fault ⊎ (IsNotThere line stands text fault ⊎ IsUnreadFor stands text Due fault)
