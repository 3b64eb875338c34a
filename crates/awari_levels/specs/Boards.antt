-- The commands `boards` and `text --boards`: what is printed of the boards of a level.
use Rattle.std.specs.Prelude.{◌≡◌, ℕ, max, Bool, true, false, if◌then◌else◌, List, ◌++◌, ◌∷◌, [], length, Option, Some, None}
use Rattle.std.specs.Fmt.{decimal}
use Rattle.std.specs.Io.KnownBytes.{Appends}
use Rattle.std.specs.List.{flat_map, range_with_len}
use Rattle.awari_folder.specs.Contents.{Stands}
use Rattle.awari_answers.specs.Asked.{AreLevelsTo}
use Rattle.awari_answers.specs.declared.asked.NoAnswer.{NoAnswer}
use Rattle.awari_answers.specs.declared.asked.NoAnswer.TheVariants.{Span, Column}
use Rattle.awari_rank.specs.Tuples.{tuples}
use Rattle.awari_table.specs.Images.{entry_of}
use Rattle.awari_table.specs.declared.TheConstants.{HIGHEST_LEVEL}
use Rattle.awari_table.specs.declared.images.Image.{Image}
use Rattle.awari_levels.specs.Listing.{board_lines, header_of, wanted_boards}
use Rattle.awari_facts.specs.Loads.{HasLevel}
use Rattle.awari_facts.specs.Sources.{IsSaidOf}
use Rattle.awari_queries.specs.Boards.{AreAskedFor, HasNoSpan}
use Rattle.awari_members.specs.Forms.{form_of}
use Rattle.awari_members.specs.Members.{row_text}
use Rattle.awari_shown.specs.Json.{entry_members}
use Rattle.awari_queries.specs.Orders.{AsksForOrder, HasNoOrder}
use Rattle.awari_queries.specs.declared.boards.BoardsQuery.{BoardsQuery}
use Rattle.awari_members.specs.declared.forms.Form.TheVariants.{Text}
use Rattle.awari_queries.specs.declared.boards.Spans.{Spans}
use Rattle.awari_levels.specs.declared.wanted.Wanted.{Wanted}

-- the boards that are asked for; each 0th counts as each
pub record IsWanted (query : BoardsQuery) (wanted : Wanted) : Type 0 where
  pub spans : AreAskedFor query.spans wanted.spans
  pub waits : wanted.waits ≡ query.waits
  pub ended : wanted.ended ≡ query.ended
  pub running : wanted.running ≡ query.running
  pub farthest : wanted.farthest ≡ query.farthest
  pub every : wanted.every ≡ max 1 query.every
  pub random : wanted.random ≡ query.random
  pub seed : wanted.seed ≡ query.seed
  pub added : wanted.added ≡ query.added
  pub order : AsksForOrder query.sort wanted.order
  pub most : wanted.most ≡ query.most
  pub count : wanted.count ≡ query.count
  pub form : wanted.form ≡ form_of query.json query.csv

-- a word is no span; or each is, and that of the order is none
abbrev pub IsRefused : BoardsQuery → NoAnswer → Type 0
IsRefused query (Span fault) = HasNoSpan query.spans fault
IsRefused query (Column fault) = ((spans : Spans) × AreAskedFor query.spans spans) × HasNoOrder query.sort fault
IsRefused query other = ⊥

-- how many boards of the level are wanted, or a line for each of them
unfoldable pub wanted_text : List Image → ℕ → Wanted → List ℕ
wanted_text images level wanted =
    if wanted.count
    then decimal (length (wanted_boards wanted images level)) ++ 10 ∷ []
    else header_of wanted ++ board_lines wanted images (wanted_boards wanted images level)

-- That was written.
abbrev pub AppendsWanted : List Image → ℕ → Wanted → Option (List ℕ) → Option (List ℕ) → Type 0
AppendsWanted images level wanted before after = Appends before after (wanted_text images level wanted)

-- Where it is known what the writer holds, that was written of the boards that the query asks for, by right levels: those up to
-- the query's that the folder stores, where it is known what its names have.
abbrev pub PrintsBoards : Stands → BoardsQuery → Option (List ℕ) → Option (List ℕ) → Type 0
PrintsBoards stands query before after = (images : List Image) × (wanted : Wanted) × HasLevel query.level stands images × IsWanted query wanted
    × AppendsWanted images query.level wanted before after

-- Where it is known what has the names, and what the writer holds, that was written of the boards that the query asks for, by what
-- the files say, whether that is right or not.
abbrev pub PrintsBoardsSaid : Stands → BoardsQuery → Option (List ℕ) → Option (List ℕ) → Type 0
PrintsBoardsSaid stands query before after = (wanted : Wanted) × IsWanted query wanted
    × IsSaidOf query.level stands (λ images. AppendsWanted images query.level wanted before after)

-- The one or the other.
abbrev pub PrintsBoardsBy : Bool → Stands → BoardsQuery → Option (List ℕ) → Option (List ℕ) → Type 0
PrintsBoardsBy false = PrintsBoards
PrintsBoardsBy true = PrintsBoardsSaid

-- a row of a board and its entry, and a line feed (10), for each board of a level: `tuples 12 level` are the boards with this many stones in
-- lexicographic order
unfoldable pub level_lines : List Image → ℕ → List ℕ
level_lines images level = flat_map (λ board. row_text Text (entry_members board (entry_of images board)) ++ 10 ∷ []) (tuples 12 level)

-- those of all levels
abbrev pub all_lines : List Image → List ℕ
all_lines images = flat_map (level_lines images) (range_with_len 0 (length images))

-- Where it is known what the writer holds, what was written are the lines of all boards of right levels, or of the one of this
-- number. The levels are those that the folder stores, where it is known what its names have.
abbrev pub PrintsAllBoards : Stands → Option ℕ → Option (List ℕ) → Option (List ℕ) → Type 0
PrintsAllBoards stands None before after = (images : List Image) × AreLevelsTo HIGHEST_LEVEL stands images × Appends before after (all_lines images)
PrintsAllBoards stands (Some level) before after = (images : List Image) × HasLevel level stands images × Appends before after (level_lines images level)
