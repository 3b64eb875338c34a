-- Which request the words make: that of the command that they name, with the values that they give to each of its names.
use Rattle.std.specs.Prelude.{◌≡◌, ◌≢◌, ◌⊎◌, ℕ, ◌<◌, ◌^◌, Bool, true, false, List, Some, None, codes, length, slice_index, Option, option_map, EachIndex, IfSome, IsSomeAnd}
use Rattle.std.specs.Char.{is_ascii_hexdigit}
use Rattle.std.specs.Str.Parse.{IsNumeral, digits_value, without_leading_plus}
use Rattle.clap.specs.Matches.{found_of}
use Rattle.clap.specs.Walk.{Row, all_of, first_of, one_of, rows_of, texts}
use Rattle.clap.specs.declared.parser.matches.ArgMatches.{ArgMatches}
use Rattle.awari_pace.specs.declared.paces.Pace.{Pace}
use Rattle.awari_queries.specs.declared.boards.BoardsQuery.{BoardsQuery}
use Rattle.awari_words.specs.declared.requests.Question.{Question}
use Rattle.awari_words.specs.declared.requests.Question.TheVariants.{Verify, Text, Ask, Moves, Line, Serve, Counts, Boards}
use Rattle.awari_words.specs.declared.requests.Request.{Request}
use Rattle.awari_words.specs.declared.requests.Request.TheVariants.{Check, Move, Judge, Build, Migrate, Rank, Board, Plays, Read}

-- the values that `clap` found, by name
abbrev pub values : ArgMatches → List Row
values found = rows_of (found_of found)

-- the first value of this name is this text
abbrev pub Gives : List Row → List ℕ → List ℕ → Type 0
Gives given id text = first_of id given ≡ Some text

abbrev pub Lacks : List Row → List ℕ → Type 0
Lacks given id = first_of id given ≡ None

-- there is a first value of this name, and it spells the number
abbrev pub Spells : List Row → List ℕ → ℕ → Type 0
Spells given id n = (one_of id given ≢ None) × ((t : List ℕ) → one_of id given ≡ Some t → n ≡ digits_value 10 (without_leading_plus t))

-- the first value of this name spells no number of this many bits
abbrev pub SpellsNone : ℕ → List Row → List ℕ → Type 0
SpellsNone bits given id = (t : List ℕ) → one_of id given ≡ Some t → IsNumeral 10 (without_leading_plus t) → digits_value 10 (without_leading_plus t) < 2 ^ bits → ⊥

-- the first value of this name spells the number, and there is none where no number below 2 ^ 8 is spelled
abbrev pub SpellsOr : List Row → List ℕ → Option ℕ → Type 0
SpellsOr given id None = SpellsNone 8 given id
SpellsOr given id (Some n) = Spells given id n

-- the pace has the values of its three names
abbrev pub IsPaceOf : List Row → Pace → Type 0
IsPaceOf given pace = Spells given (codes "owners") pace.owners × Spells given (codes "room") pace.room × Spells given (codes "sweeps") pace.sweeps

-- one of them is not there, or spells no number
abbrev pub IsNoPace : List Row → Type 0
IsNoPace given = SpellsNone 8 given (codes "owners") ⊎ SpellsNone 32 given (codes "room") ⊎ SpellsNone 32 given (codes "sweeps")

-- the flag is true where its value is said to be `true`, and false where that is `false` or there is none
pub record IsFlagOf (given : List Row) (id : List ℕ) (flag : Bool) : Type 0 where
  pub lacks : one_of id given ≡ None → flag ≡ false
  pub set : one_of id given ≡ Some (codes "true") → flag ≡ true
  pub unset : one_of id given ≡ Some (codes "false") → flag ≡ false

-- what is asked of boards has the values of these names
pub record IsBoardsQueryOf (given : List Row) (query : BoardsQuery) : Type 0 where
  pub level : Spells given (codes "LEVEL") query.level
  pub value : option_map (λ t. t.now) query.spans.value ≡ first_of (codes "value") given
  pub distance : option_map (λ t. t.now) query.spans.distance ≡ first_of (codes "distance") given
  pub plan : option_map (λ t. t.now) query.spans.plan ≡ first_of (codes "plan") given
  pub captures : option_map (λ t. t.now) query.spans.captures ≡ first_of (codes "captures") given
  pub greedy : option_map (λ t. t.now) query.spans.greedy ≡ first_of (codes "greedy") given
  pub side : option_map (λ t. t.now) query.spans.side ≡ first_of (codes "side") given
  pub moves : option_map (λ t. t.now) query.spans.moves ≡ first_of (codes "moves") given
  pub keep : option_map (λ t. t.now) query.spans.keep ≡ first_of (codes "keep") given
  pub trap : option_map (λ t. t.now) query.spans.trap ≡ first_of (codes "trap") given
  pub other : option_map (λ t. t.now) query.spans.other ≡ first_of (codes "other") given
  pub waits : IsFlagOf given (codes "waits") query.waits
  pub ended : IsFlagOf given (codes "ended") query.ended
  pub running : IsFlagOf given (codes "open") query.running
  pub farthest : IsFlagOf given (codes "farthest") query.farthest
  pub every : Spells given (codes "every") query.every
  pub random : Spells given (codes "random") query.random
  pub seed : Spells given (codes "seed") query.seed
  pub sort : option_map (λ t. t.now) query.sort ≡ first_of (codes "sort") given
  pub most : Spells given (codes "most") query.most
  pub with_moves : IsFlagOf given (codes "with-moves") query.added.moves
  pub with_keep : IsFlagOf given (codes "with-keep") query.added.keep
  pub with_greedy : IsFlagOf given (codes "with-greedy") query.added.greedy
  pub with_trap : IsFlagOf given (codes "with-trap") query.added.trap
  pub with_other : IsFlagOf given (codes "with-other") query.added.other
  pub with_waits : IsFlagOf given (codes "with-waits") query.added.waits
  pub count : IsFlagOf given (codes "count") query.count
  pub json : IsFlagOf given (codes "json") query.json
  pub csv : IsFlagOf given (codes "csv") query.csv
  pub unverified : IsFlagOf given (codes "unverified") query.unverified

-- one of the numbers that it needs is not there, or is spelled by no text
abbrev pub IsNoBoardsQuery : List Row → Type 0
IsNoBoardsQuery given =
    SpellsNone 8 given (codes "LEVEL") ⊎ SpellsNone 32 given (codes "every") ⊎ SpellsNone 32 given (codes "random") ⊎ SpellsNone 32 given (codes "seed")
    ⊎ SpellsNone 32 given (codes "most")

-- 64 hexadecimal digits, in either case
abbrev pub IsDigest : List ℕ → Type 0
IsDigest text = (length text ≡ 64) × EachIndex text (λ k. is_ascii_hexdigit (slice_index text k) ≡ true)

-- a digest is given that is none
abbrev pub GivesNoDigest : List Row → Type 0
GivesNoDigest given = IsSomeAnd (first_of (codes "digest") given) (λ text. IsDigest text → ⊥)

-- The question is that of the command's name, with the values that were given for each of its names.
abbrev pub IsQuestionOf : List ℕ → List Row → Question → Type 0
IsQuestionOf name given (Verify q) = (name ≡ codes "verify") × SpellsOr given (codes "levels") q.levels
    × (option_map (λ t. t.now) q.digest ≡ first_of (codes "digest") given) × IfSome q.digest (λ t. IsDigest t.now) × IsFlagOf given (codes "progress") q.progress
IsQuestionOf name given (Text q) = (name ≡ codes "text") × SpellsOr given (codes "LEVEL") q.level × IsFlagOf given (codes "boards") q.boards
IsQuestionOf name given (Ask q) = (name ≡ codes "ask") × Gives given (codes "BOARD") q.board.now × IsFlagOf given (codes "json") q.json
    × IsFlagOf given (codes "unverified") q.unverified
IsQuestionOf name given (Moves q) = (name ≡ codes "moves") × Gives given (codes "BOARD") q.board.now
    × IsFlagOf given (codes "replies") q.replies × IsFlagOf given (codes "json") q.json × IsFlagOf given (codes "unverified") q.unverified
IsQuestionOf name given (Line q) = (name ≡ codes "line") × Gives given (codes "BOARD") q.board.now
    × IsFlagOf given (codes "longest") q.longest × IsFlagOf given (codes "plies") q.plies × IsFlagOf given (codes "json") q.json
    × IsFlagOf given (codes "unverified") q.unverified
IsQuestionOf name given (Serve q) = (name ≡ codes "serve") × Spells given (codes "TOP") q.top × Spells given (codes "OWNERS") q.owners
    × IsFlagOf given (codes "unverified") q.unverified
IsQuestionOf name given (Counts q) = (name ≡ codes "counts") × SpellsOr given (codes "LEVEL") q.level
    × (option_map (λ t. t.now) q.by ≡ first_of (codes "by") given) × IsFlagOf given (codes "json") q.json × IsFlagOf given (codes "csv") q.csv
    × IsFlagOf given (codes "unverified") q.unverified
IsQuestionOf name given (Boards q) = (name ≡ codes "boards") × IsBoardsQueryOf given q

-- The same of the request. A question's folder has one name in all commands.
abbrev pub IsRequestOf : List ℕ → List Row → Request → Type 0
IsRequestOf name given Check = name ≡ codes "check"
IsRequestOf name given (Move board pit) = (name ≡ codes "move") × Gives given (codes "BOARD") board.now × Spells given (codes "PIT") pit
IsRequestOf name given (Judge board limit moves) = (name ≡ codes "judge") × Gives given (codes "BOARD") board.now × Spells given (codes "LIMIT") limit
    × (option_map (λ words. texts words.now) moves ≡ all_of (codes "MOVES") given)
IsRequestOf name given (Build q) = (name ≡ codes "build") × Spells given (codes "TOP") q.top × (option_map (λ f. f.now) q.folder ≡ first_of (codes "folder") given)
    × SpellsOr given (codes "threads") q.threads × IsPaceOf given q.pace × IsFlagOf given (codes "progress") q.progress × IsFlagOf given (codes "estimate") q.estimate
IsRequestOf name given (Migrate from to) = (name ≡ codes "migrate") × Gives given (codes "FROM") from.now × Gives given (codes "TO") to.now
IsRequestOf name given (Rank board) = (name ≡ codes "rank") × Gives given (codes "BOARD") board.now
IsRequestOf name given (Board level rank) = (name ≡ codes "board") × Spells given (codes "LEVEL") level × Spells given (codes "RANK") rank
IsRequestOf name given (Plays board plies) = (name ≡ codes "plays") × Gives given (codes "BOARD") board.now × Spells given (codes "PLIES") plies
IsRequestOf name given (Read folder question) = Gives given (codes "FOLDER") folder.now × IsQuestionOf name given question

-- The name is no command's, or a value that its command needs is not there, or a digest is none.
pub record IsNoRequest (name : List ℕ) (given : List Row) : Type 0 where
  pub check : name ≡ codes "check" → ⊥
  pub moved : name ≡ codes "move" → Lacks given (codes "BOARD") ⊎ SpellsNone 8 given (codes "PIT")
  pub judge : name ≡ codes "judge" → Lacks given (codes "BOARD") ⊎ SpellsNone 32 given (codes "LIMIT")
  pub build : name ≡ codes "build" → SpellsNone 8 given (codes "TOP") ⊎ IsNoPace given
  pub verify : name ≡ codes "verify" → Lacks given (codes "FOLDER") ⊎ GivesNoDigest given
  pub text : name ≡ codes "text" → Lacks given (codes "FOLDER")
  pub migrate : name ≡ codes "migrate" → Lacks given (codes "FROM") ⊎ Lacks given (codes "TO")
  pub ask : name ≡ codes "ask" → Lacks given (codes "FOLDER") ⊎ Lacks given (codes "BOARD")
  pub moves : name ≡ codes "moves" → Lacks given (codes "FOLDER") ⊎ Lacks given (codes "BOARD")
  pub line : name ≡ codes "line" → Lacks given (codes "FOLDER") ⊎ Lacks given (codes "BOARD")
  pub serve : name ≡ codes "serve" → Lacks given (codes "FOLDER") ⊎ SpellsNone 8 given (codes "TOP") ⊎ SpellsNone 8 given (codes "OWNERS")
  pub rank : name ≡ codes "rank" → Lacks given (codes "BOARD")
  pub board : name ≡ codes "board" → SpellsNone 8 given (codes "LEVEL") ⊎ SpellsNone 32 given (codes "RANK")
  pub plays : name ≡ codes "plays" → Lacks given (codes "BOARD") ⊎ SpellsNone 8 given (codes "PLIES")
  pub counts : name ≡ codes "counts" → Lacks given (codes "FOLDER")
  pub boards : name ≡ codes "boards" → Lacks given (codes "FOLDER") ⊎ IsNoBoardsQuery given

-- The words have no fault, and the request is that of the command that they name.
abbrev pub IsAsked : Option (List ℕ × List Row) → Option Request → Type 0
IsAsked None request = request ≡ None
IsAsked (Some named) (Some request) = IsRequestOf named.0 named.1 request
IsAsked (Some named) None = IsNoRequest named.0 named.1
