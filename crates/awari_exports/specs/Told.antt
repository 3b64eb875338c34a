-- What is told as numbers, and of the levels behind a handle.
use Rattle.std.specs.Prelude.{◌≡◌, ◌≢◌, ◌↔◌, ℕ, ◌+◌, ◌<◌, ◌≤◌, true, false, Some, List, [], ◌++◌, drop, length, map, slice_get, slice_index_or, sum, take, pos, min}
use Rattle.awari_board.specs.Rules.{IsLegal}
use Rattle.awari_play.specs.BestLine.{IsBestLine}
use Rattle.awari_play.specs.LongestLine.{IsLongestLine}
use Rattle.awari_play.specs.MoveWorth.{IsWorthOf}
use Rattle.awari_play.specs.declared.worths.MoveWorth.{MoveWorth}
use Rattle.awari_table.specs.Certificate.{Table}
use Rattle.awari_table.specs.Images.{entry_of, even_boards, greatest_limit, lost_boards, table_of, won_boards}
use Rattle.awari_table.specs.declared.images.Entry.{Entry}
use Rattle.awari_table.specs.declared.images.Image.{Image}
use Rattle.awari_file.specs.FileFault.{number_of as file_number}
use Rattle.awari_file.specs.FileText.{plan_byte}
use Rattle.awari_verify.specs.VerifyFault.{number_of as verify_number}
use Rattle.awari_verify.specs.declared.rules.Rule.{Rule}
use Rattle.awari_verify.specs.declared.rules.Rule.TheVariants.{V1, V2, V3, V4, V5, V6, V7}
use Rattle.awari_verify.specs.declared.verdicts.VerifyFault.{VerifyFault}
use Rattle.awari_verify.specs.declared.verdicts.VerifyFault.TheVariants.{WrongLevel, WrongSize, Refused}
use Rattle.awari_verify.specs.declared.verdicts.VerifyFault.TheVariants as verify
use Rattle.awari_folder.specs.FolderFault.{number_of}
use Rattle.awari_folder.specs.NextFile.{IsFileFault}
use Rattle.awari_folder.specs.declared.faults.FolderFault.{FolderFault}
use Rattle.awari_folder.specs.declared.faults.FolderFault.TheVariants.{Below, File, Open, Verify, Memory, Occupied, Old}
use Rattle.awari_exports.specs.Boards.{IsAnswer}
use Rattle.awari_exports.specs.declared.answers.PlainEntry.{PlainEntry}
use Rattle.awari_exports.specs.declared.answers.PlainFault.{PlainFault}
use Rattle.awari_exports.specs.declared.answers.PlainMove.{PlainMove}
use Rattle.awari_exports.specs.declared.telling.PlainCounts.{PlainCounts}

abbrev pub told_entry : Entry → PlainEntry
told_entry e = record { value = e.value; plan = plan_byte e.plan; distance = e.dist }

-- the number in a rule's name
abbrev pub rule_number : Rule → ℕ
rule_number V1 = 1
rule_number V2 = 2
rule_number V3 = 3
rule_number V4 = 4
rule_number V5 = 5
rule_number V6 = 6
rule_number V7 = 7

-- the rule that a level breaks, and the rank of the board, 0 where it is refused otherwise
abbrev pub rule_in : VerifyFault → ℕ
rule_in (Refused rank rule) = rule_number rule
rule_in WrongLevel = 0
rule_in WrongSize = 0
rule_in verify.Memory = 0

abbrev pub rank_in : VerifyFault → ℕ
rank_in (Refused rank rule) = rank
rank_in WrongLevel = 0
rank_in WrongSize = 0
rank_in verify.Memory = 0

-- of a fault that has a level alone
abbrev pub of_level : ℕ → PlainFault
of_level level = record { level = level; inner = 0; rule = 0; rank = 0 }

abbrev pub told_fault : FolderFault → PlainFault
told_fault (File level fault) = record { level = level; inner = file_number fault; rule = 0; rank = 0 }
told_fault (Verify level fault) = record { level = level; inner = verify_number fault; rule = rule_in fault; rank = rank_in fault }
told_fault (Below level) = of_level level
told_fault (Open level) = of_level level
told_fault (Occupied level) = of_level level
told_fault (Old level) = of_level level
told_fault Memory = of_level 0

-- The refusal of the bytes as the next file over these levels, by its number and the numbers beside it.
pub record IsRefusal (levels : List Image) (below bytes : List ℕ) (number : ℕ) (told : PlainFault) : Type 0 where
  pub fault : FolderFault
  pub due : IsFileFault levels below bytes fault
  pub numbered : number ≡ number_of fault
  pub tells : told ≡ told_fault fault

-- the worth of a legal pit; of its plies at most the greatest number of 32 bits is told
abbrev pub told_worth : MoveWorth → PlainMove
told_worth w = record { legal = true; captures = w.captured; value = w.value; distance = min w.plies 4294967295 }

-- a pit that can't be played
abbrev pub no_move : PlainMove
no_move = record { legal = false; captures = 0; value = pos 0; distance = 0 }

-- It is said to be legal exactly where it is, and then what it is worth.
pub record TellsMove (t : Table) (board : List ℕ) (pit : ℕ) (m : PlainMove) : Type 0 where
  pub legal : (m.legal ≡ true) ↔ IsLegal board pit
  pub worth : m.legal ≡ true → (w : MoveWorth) × IsWorthOf t board pit w × (m ≡ told_worth w)
  pub rest : m.legal ≡ false → m ≡ no_move

-- The line of play by the plans of both sides, which ends by the limit of the levels up to the board's: its first outcome is the
-- board's value. It is as long as is told, and lies in the room that there was as far as it goes.
pub record TellsLine (levels : List Image) (board room told : List ℕ) (length_told : ℕ) : Type 0 where
  pub moves : List ℕ
  pub best : IsBestLine (table_of levels) (greatest_limit (take (sum board + 1) levels)) board moves (entry_of levels board).value
  pub long : length_told ≡ length moves
  pub lies : told ≡ take (length room) moves ++ drop (length moves) room

-- what is told of boards, each in its turn
abbrev pub told_entries : List Image → List (List ℕ) → List PlainEntry
told_entries levels boards = map (λ board. told_entry (entry_of levels board)) boards

-- How many boards are told, and the answer: all for which there is room, and 0; or those before the first that is refused, and
-- what refuses it.
pub record IsTold (levels : List Image) (boards : List (List ℕ)) (room told answer : ℕ) : Type 0 where
  pub most : told ≤ min (length boards) room
  pub known : (i : ℕ) → i < told → sum (slice_index_or boards i []) < length levels
  pub all : answer ≡ 0 → told ≡ min (length boards) room
  pub refused : answer ≢ 0 → (told < min (length boards) room) × IsAnswer (sum (slice_index_or boards told [])) (length levels) answer

-- It says how many boards of the level of this number are won, even and lost for the mover, and the greatest distance.
pub record TellsCounts (levels : List Image) (level : ℕ) (told : PlainCounts) : Type 0 where
  pub image : Image
  pub found : slice_get levels level ≡ Some image
  pub won : told.won ≡ won_boards image.entries
  pub even : told.even ≡ even_boards image.entries
  pub lost : told.lost ≡ lost_boards image.entries
  pub limit : told.limit ≡ image.limit

-- The line of play in which the side that does not gain holds out as long as it can. It is as long as is told, and lies in the room
-- that there was as far as it goes.
pub record TellsLongestLine (levels : List Image) (board room told : List ℕ) (length_told : ℕ) : Type 0 where
  pub moves : List ℕ
  pub longest : IsLongestLine (table_of levels) board moves
  pub long : length_told ≡ length moves
  pub lies : told ≡ take (length room) moves ++ drop (length moves) room
