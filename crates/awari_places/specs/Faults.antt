-- Which refusals come of what is looked up in files, by what has the names of the levels, as far as that is known.
use Rattle.std.specs.Prelude.{◌≡◌, ◌⊎◌, ⊤, ℕ, ◌+◌, ◌<◌, ◌≤◌, Bool, true, false, List, drop, length, sum, take, Option, None, Some, IfSome, IsErr, IsSomeAnd}
use Rattle.awari_folder.specs.Contents.{Stands}
use Rattle.awari_board.specs.Rules.{IsBoard}
use Rattle.awari_file.specs.FileText.{entry_place}
use Rattle.awari_file.specs.Reading.{entry_of}
use Rattle.awari_file.specs.declared.faults.FileFault.{FileFault}
use Rattle.awari_file.specs.declared.faults.FileFault.TheVariants as faults
use Rattle.awari_folder.specs.declared.faults.FolderFault.{FolderFault}
use Rattle.awari_folder.specs.declared.faults.FolderFault.TheVariants.{File, Open, Verify, Memory}
use Rattle.awari_rank.specs.Rank.{rank_of, size_of}
use Rattle.awari_table.specs.Certificate.{DistancesAreLeast}
use Rattle.awari_table.specs.Images.{table_of}
use Rattle.awari_table.specs.declared.images.Image.{Image}
use Rattle.awari_verify.specs.FirstFailure.{BreaksFirst}
use Rattle.awari_verify.specs.declared.rules.Rule.{Rule}
use Rattle.awari_verify.specs.declared.rules.Rule.TheVariants.{V3, V6}
use Rattle.awari_verify.specs.declared.verdicts.VerifyFault.TheVariants.{Refused}
use Rattle.awari_play.specs.Unplayed.{IsNotLegal}
use Rattle.awari_play.specs.declared.lookups.Unplayed.{Unplayed}
use Rattle.awari_play.specs.declared.lookups.Unplayed.TheVariants as unplayed
use Rattle.awari_table.specs.declared.TheConstants.{HIGHEST_LEVEL}
use Rattle.awari_places.specs.Opening.{IsFrameFault}
use Rattle.awari_places.specs.Places.{Says}

-- the bytes end before the six at the place do
abbrev pub IsShortAt : ℕ → List ℕ → Type 0
IsShortAt place bytes = length bytes < place + 6

-- the six bytes at the place are there, and are no entry
abbrev pub HasNoEntryAt : ℕ → List ℕ → Type 0
HasNoEntryAt place bytes = (place + 6 ≤ length bytes) × IsErr (entry_of (take 6 (drop place bytes)))

-- Why six bytes at a place are not read as an entry, where it is known what has the name: 68 if there is no file, 60 if the file is too
-- short, and 65 if the bytes are no entry. It is never another fault.
abbrev pub IsPlaceFault : ℕ → Option (Option (List ℕ)) → FileFault → Type 0
IsPlaceFault place known faults.Read = IfSome known (λ name. name ≡ None)
IsPlaceFault place known faults.Truncated = IfSome known (λ name. IsSomeAnd name (IsShortAt place))
IsPlaceFault place known faults.EntryForm = IfSome known (λ name. IsSomeAnd name (HasNoEntryAt place))
IsPlaceFault place known fault = ⊥

-- It is 81 of this level, for its bytes at this place.
pub record IsFileFaultAt (level place : ℕ) (known : Option (Option (List ℕ))) (fault : FolderFault) : Type 0 where
  pub inner : FileFault
  pub told : fault ≡ File level inner
  pub due : IsPlaceFault place known inner

-- Why the entry of a rank of a level is not read: 82 of this level, or 84, or 81 of this level for what has its name. It is never
-- another refusal.
abbrev pub IsEntryFault : ℕ → ℕ → Option (Option (List ℕ)) → FolderFault → Type 0
IsEntryFault level rank known (Open n) = n ≡ level
IsEntryFault level rank known Memory = ⊤
IsEntryFault level rank known (File n fault) = (n ≡ level) × IsPlaceFault (entry_place rank) known fault
IsEntryFault level rank known fault = ⊥

-- The entry of some rank of a level, from this one on, is refused so.
pub record IsFaultFrom (level rank : ℕ) (known : Option (Option (List ℕ))) (fault : FolderFault) : Type 0 where
  pub at : ℕ
  pub from : rank ≤ at
  pub there : at < size_of level
  pub due : IsEntryFault level at known fault

-- The entry of this board is refused so, by what has the name of its level.
pub record IsRefusedAt (stands : Stands) (board : List ℕ) (fault : FolderFault) : Type 0 where
  pub is_board : IsBoard board
  pub due : IsEntryFault (sum board) (rank_of board) (stands (sum board)) fault

-- The entry of some board of these levels is refused so.
pub record IsLookFault (levels : ℕ) (stands : Stands) (fault : FolderFault) : Type 0 where
  pub board : List ℕ
  pub known : sum board < levels
  pub here : IsRefusedAt stands board fault

-- The refusal of a header alone: that of the file that has the level's name, or 81 with 68 if there is none.
abbrev pub IsLimitFault : ℕ → Option (List ℕ) → FolderFault → Type 0
IsLimitFault level name fault = IsFrameFault level name fault ⊎ ((name ≡ None) × (fault ≡ File level faults.Read))

-- One of these levels is not read: the refusal is that of its limit, or of the entry of some rank.
pub record IsUnread (levels : ℕ) (names : ℕ → Option (List ℕ)) (fault : FolderFault) : Type 0 where
  pub level : ℕ
  pub low : level < levels
  pub due : IsLimitFault level (names level) fault ⊎ IsFaultFrom level 0 (Some (names level)) fault

-- It is 83 with V3 at some board of these levels whose plan is not legal, by what the files say.
pub record IsPlanFault (levels : ℕ) (stands : Stands) (fault : FolderFault) : Type 0 where
  pub board : List ℕ
  pub is_board : IsBoard board
  pub known : sum board < levels
  pub told : fault ≡ Verify (sum board) (Refused (rank_of board) V3)
  pub illegal : (images : List Image) → Says stands levels images → IsNotLegal board ((table_of images).plan board)

-- the refusal of a line that follows the plans
abbrev pub IsLineFault : ℕ → Stands → FolderFault → Type 0
IsLineFault levels stands fault = IsLookFault levels stands fault ⊎ IsPlanFault levels stands fault

-- It is 83 at some board of these levels, which breaks this rule first by what the files say.
pub record IsBreachFault (levels : ℕ) (stands : Stands) (fault : FolderFault) : Type 0 where
  pub board : List ℕ
  pub rule : Rule
  pub is_board : IsBoard board
  pub known : sum board < levels
  pub told : fault ≡ Verify (sum board) (Refused (rank_of board) rule)
  pub breaks : (images : List Image) → Says stands levels images → BreaksFirst DistancesAreLeast (table_of images) board rule

-- the refusal of a board that is judged
abbrev pub IsJudgeFault : ℕ → Stands → FolderFault → Type 0
IsJudgeFault levels stands fault = IsLookFault levels stands fault ⊎ IsBreachFault levels stands fault

-- It is 83 with V6 at a board of one of these levels, and it is not known what the files say.
pub record IsUnsaid (levels : ℕ) (stands : Stands) (fault : FolderFault) : Type 0 where
  pub board : List ℕ
  pub known : sum board < levels
  pub told : fault ≡ Verify (sum board) (Refused (rank_of board) V6)
  pub unsaid : (images : List Image) → Says stands levels images → ⊥

-- the refusal of a line in which one side holds out
abbrev pub IsLongestFault : ℕ → Stands → FolderFault → Type 0
IsLongestFault levels stands fault = IsJudgeFault levels stands fault ⊎ IsUnsaid levels stands fault

-- the refusal of either line
abbrev pub IsPliesFault : Bool → ℕ → Stands → FolderFault → Type 0
IsPliesFault true levels stands fault = IsLongestFault levels stands fault
IsPliesFault false levels stands fault = IsLineFault levels stands fault

-- how a play that is not told is refused: 84, as a look-up is, or 83 with this rule at a board where no legal pit is due
abbrev pub unplayed_fault : Rule → Unplayed FolderFault → FolderFault
unplayed_fault rule unplayed.Memory = Memory
unplayed_fault rule (unplayed.Refused fault) = fault
unplayed_fault rule (unplayed.Illegal board) = Verify (sum board) (Refused (rank_of board) rule)

-- the rule of such a board of the longest line, or of the best line
abbrev pub rule_due : Bool → Rule
rule_due true = V6
rule_due false = V3

-- that board, if there is one, is of a level that has a number
abbrev pub IsLowAt : Unplayed FolderFault → Type 0
IsLowAt (unplayed.Illegal board) = sum board ≤ HIGHEST_LEVEL
IsLowAt fault = ⊤
