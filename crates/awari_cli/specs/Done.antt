-- What the program has printed for a request where it ends with status 0, and what it leaves of the host's folders.
use Rattle.std.specs.Prelude.{◌≡◌, ◌≢◌, ℕ, Bool, List, [], Option, Some, None, true, false}
use Rattle.std.specs.Borrow.{Bor}
use Rattle.std.specs.Io.KnownBytes.{Keeps}
use Rattle.awari_check.specs.Answer.{PrintsYes}
use Rattle.awari_folder.specs.Contents.{Same, KeepsFiles, Stands}
use Rattle.awari_builds.specs.Building.{PrintsAllLevels, PrintsLevels}
use Rattle.awari_builds.specs.Migrating.{PrintsMigrated}
use Rattle.awari_builds.specs.Serving.{PrintsService}
use Rattle.awari_boards.specs.Asks.{PrintsEntry}
use Rattle.awari_levels.specs.Wishes.{PrintsFolder}
use Rattle.awari_boards.specs.Judgement.{PrintsJudgement, bytes_of}
use Rattle.awari_boards.specs.Lines.{PrintsLine}
use Rattle.awari_boards.specs.Playing.{PrintsMove}
use Rattle.awari_levels.specs.Texts.{PrintsText}
use Rattle.awari_boards.specs.Worths.{PrintsWorths}
use Rattle.awari_levels.specs.Boards.{PrintsAllBoards, PrintsBoardsBy}
use Rattle.awari_counts.specs.Pairs.{PrintsPairsBy}
use Rattle.awari_members.specs.Forms.{form_of}
use Rattle.awari_queries.specs.declared.questions.CountsQuery.{CountsQuery}
use Rattle.awari_counts.specs.Counts.{PrintsCountsBy}
use Rattle.awari_boards.specs.Places.{PrintsBoard, PrintsPlace}
use Rattle.awari_boards.specs.Plays.{PrintsPlays}
use Rattle.awari_boards.specs.Said.{PrintsServiceSaid}
use Rattle.awari_words.specs.declared.requests.Question.{Question}
use Rattle.awari_words.specs.declared.requests.Question.TheVariants.{Verify, Text, Ask, Moves, Line, Serve, Counts, Boards}
use Rattle.awari_words.specs.declared.requests.Request.{Request}
use Rattle.awari_words.specs.declared.requests.Request.TheVariants.{Check, Move, Judge, Build, Migrate, Rank, Board, Plays, Read}

-- the text of levels, with their boards or without
abbrev pub PrintsTextOf : Bool → Stands → Option ℕ → Option (List ℕ) → Option (List ℕ) → Type 0
PrintsTextOf false = PrintsText
PrintsTextOf true = PrintsAllBoards

-- the answers to the lines that the reader had left, by right levels or by what the files say
abbrev pub PrintsServiceBy : Bool → Stands → Option (List ℕ) → Option (List ℕ) → Option (List ℕ) → Type 0
PrintsServiceBy false = PrintsService
PrintsServiceBy true = PrintsServiceSaid

-- levels in numbers, or a level by two columns
abbrev pub PrintsNumbers : Option (Bor (List ℕ)) → CountsQuery → Stands → Option (List ℕ) → Option (List ℕ) → Type 0
PrintsNumbers None q stands = PrintsCountsBy q.unverified (form_of q.json q.csv) stands q.level
PrintsNumbers (Some by) q stands = PrintsPairsBy q.unverified stands q

-- the lines of the levels that lie in a folder, their text, the board's entry, its legal moves, a line of play from it, the answers
-- to the lines that the reader had left, the counts of levels, or boards of a level; unverified: what the files say of the board
abbrev pub PrintsAnswer : Question → Stands → Option (List ℕ) → Option (List ℕ) → Option (List ℕ) → Type 0
PrintsAnswer (Verify q) stands input = PrintsFolder q.levels q.digest stands
PrintsAnswer (Text q) stands input = PrintsTextOf q.boards stands q.level
PrintsAnswer (Ask q) stands input = PrintsEntry q stands
PrintsAnswer (Moves q) stands input = PrintsWorths q stands
PrintsAnswer (Line q) stands input = PrintsLine q stands
PrintsAnswer (Serve q) stands input = PrintsServiceBy q.unverified stands input
PrintsAnswer (Counts q) stands input = PrintsNumbers q.by q stands
PrintsAnswer (Boards q) stands input = PrintsBoardsBy q.unverified stands q

-- The lines of the levels that were built in the folder of this name, which holds them now if the host keeps it.
abbrev pub PrintsBuilt : (List ℕ → Type 0) → ℕ → List ℕ → (List ℕ → Stands) → (List ℕ → Stands) → Option (List ℕ) → Option (List ℕ) → Type 0
PrintsBuilt keeps top name old new before after = (stands : Stands) × (keeps name → new name ≡ stands) × PrintsLevels top (old name) stands before after

-- The lines of the levels that were built, in a folder if one is named.
abbrev pub PrintsBuild : (List ℕ → Type 0) → ℕ → Option (Bor (List ℕ)) → (List ℕ → Stands) → (List ℕ → Stands) → Option (List ℕ) → Option (List ℕ) → Type 0
PrintsBuild keeps top None old new before after = PrintsAllLevels top before after
PrintsBuild keeps top (Some folder) old new before after = PrintsBuilt keeps top folder.now old new before after

-- Those, or nothing for an estimate.
abbrev pub PrintsBuildOr : Bool → (List ℕ → Type 0) → ℕ → Option (Bor (List ℕ)) → (List ℕ → Stands) → (List ℕ → Stands) → Option (List ℕ) → Option (List ℕ) → Type 0
PrintsBuildOr false keeps top folder old new = PrintsBuild keeps top folder old new
PrintsBuildOr true keeps top folder old new = Keeps

-- The lines of the levels that were brought over from one folder into the other. If both have one name, nothing is known of the
-- other.
abbrev pub PrintsBrought : (List ℕ → Type 0) → List ℕ → List ℕ → (List ℕ → Stands) → (List ℕ → Stands) → Option (List ℕ) → Option (List ℕ) → Type 0
PrintsBrought keeps from to old new before after = (others stands : Stands) × (from ≢ to → old to ≡ others) × (from ≢ to → keeps to → new to ≡ stands)
    × PrintsMigrated (old from) others stands before after

-- the bytes of all words of a play, if there are any
abbrev pub moves_of : Option (Bor (List (Bor (List ℕ)))) → List ℕ
moves_of None = []
moves_of (Some words) = bytes_of words.now

-- the yes for what the reader had left, the move, the judgement of the play, the lines of levels that were built, in a folder or
-- not, nothing for an estimate, the lines of levels that were brought over, the board's place, the board of a place, the counts of plays, or the answer to a question
abbrev pub PrintsFor : (List ℕ → Type 0) → Request → (List ℕ → Stands) → (List ℕ → Stands) → Option (List ℕ) → Option (List ℕ) → Option (List ℕ) → Type 0
PrintsFor keeps Check old new input before after = PrintsYes input before after
PrintsFor keeps (Move board pit) old new input before after = PrintsMove board.now pit before after
PrintsFor keeps (Judge board limit moves) old new input before after = PrintsJudgement board.now limit (moves_of moves) before after
PrintsFor keeps (Build q) old new input before after = PrintsBuildOr q.estimate keeps q.top q.folder old new before after
PrintsFor keeps (Migrate from to) old new input before after = PrintsBrought keeps from.now to.now old new before after
PrintsFor keeps (Rank board) old new input before after = PrintsPlace board.now before after
PrintsFor keeps (Board level rank) old new input before after = PrintsBoard level rank before after
PrintsFor keeps (Plays board plies) old new input before after = PrintsPlays board.now plies before after
PrintsFor keeps (Read folder question) old new input before after = PrintsAnswer question (old folder.now) input before after

-- it is the name of this folder, if one is named
abbrev pub IsFolder : Option (Bor (List ℕ)) → List ℕ → Type 0
IsFolder None name = ⊥
IsFolder (Some folder) name = name ≡ folder.now

-- the same, unless nothing is built
abbrev pub BuildsIn : Bool → Option (Bor (List ℕ)) → List ℕ → Type 0
BuildsIn false folder name = IsFolder folder name
BuildsIn true folder name = ⊥

-- the request writes into the folder of this name; an estimate writes into none
abbrev pub WritesInto : Request → List ℕ → Type 0
WritesInto (Build q) name = BuildsIn q.estimate q.folder name
WritesInto (Migrate from to) name = name ≡ to.now
WritesInto request name = ⊥

-- Each file stays in the folders that the host keeps, and a folder stays as it was if it is none of these names.
pub record LeavesFolders (keeps names : List ℕ → Type 0) (old new : List ℕ → Stands) : Type 0 where
  pub files : (name : List ℕ) → keeps name → KeepsFiles (old name) (new name)
  pub others : (name : List ℕ) → keeps name → (names name → ⊥) → Same (old name) (new name)
