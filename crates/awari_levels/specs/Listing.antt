-- The commands `boards` and `text --boards`: which boards of a level are wanted, and what is printed of them.
use Rattle.std.specs.Prelude.{◌≡◌, ◌⊎◌, ℕ, ◌+◌, ◌%◌, ◌==◌, nat_lt, Bool, true, false, not, ◌&&◌, ◌||◌, if◌then◌else◌, List, ◌++◌, ◌∷◌, [], length, filter, map, pos, Option, Some, None, ℤ}
use Rattle.core.specs.Option.{is_some}
use Rattle.std.specs.Io.KnownBytes.{Appends}
use Rattle.std.specs.List.{flat_map}
use Rattle.awari_folder.specs.Contents.{Stands}
use Rattle.awari_board.specs.Rules.{own_stones}
use Rattle.awari_facts.specs.Facts.{captures_by, gains_in, is_zugzwang, greediest, largest_capture, legal_moves, lost_by, moves_gaining, other_value}
use Rattle.awari_facts.specs.Numbers.{column_member, is_own, number_in}
use Rattle.awari_facts.specs.Sources.{IsUnreadFrom}
use Rattle.awari_facts.specs.declared.sources.Source.{Source}
use Rattle.awari_folder.specs.declared.faults.FolderFault.{FolderFault}
use Rattle.awari_folder.specs.declared.faults.FolderFault.TheVariants.{Memory}
use Rattle.awari_facts.specs.declared.looks.Gained.{Gained}
use Rattle.awari_queries.specs.Draws.{draw_of, taken}
use Rattle.awari_queries.specs.Holding.{first, sorted}
use Rattle.awari_queries.specs.Orders.{key_of}
use Rattle.awari_queries.specs.Spans.{has, is_in}
use Rattle.awari_members.specs.Members.{Named, names_text, row_text}
use Rattle.awari_shown.specs.Json.{entry_members}
use Rattle.awari_members.specs.declared.forms.Form.{Form}
use Rattle.awari_members.specs.declared.forms.Form.TheVariants.{Text, Csv, Json}
use Rattle.awari_queries.specs.declared.boards.Added.{Added}
use Rattle.awari_queries.specs.declared.boards.Spans.{Spans}
use Rattle.awari_queries.specs.declared.columns.Column.{Column}
use Rattle.awari_queries.specs.declared.columns.Column.TheVariants.{Moves, Keep, Greedy, Trap, Other, Waits}
use Rattle.awari_queries.specs.declared.orders.Order.{Order}
use Rattle.awari_rank.specs.Tuples.{tuples}
use Rattle.awari_table.specs.Images.{entry_of, greatest_dist, no_entry}
use Rattle.awari_table.specs.declared.images.Entry.{Entry}
use Rattle.awari_table.specs.declared.images.Image.{Image}
use Rattle.awari_levels.specs.declared.batches.LineNumbers.{LineNumbers}
use Rattle.awari_levels.specs.declared.wanted.Wanted.{Wanted}

-- the number of a column, if it is asked for
abbrev pub number_if : Bool → List Image → Column → List ℕ → Option ℤ
number_if asked images column board = if asked then Some (number_in images column board) else None

-- the numbers of a board's line: its entry, and further ones that are asked for
abbrev pub numbers_of : Wanted → List Image → List ℕ → LineNumbers
numbers_of wanted images board = record {
  entry = entry_of images board;
  moves = number_if wanted.added.moves images Moves board;
  keep = number_if wanted.added.keep images Keep board;
  greedy = number_if wanted.added.greedy images Greedy board;
  trap = number_if wanted.added.trap images Trap board;
  other = number_if wanted.added.other images Other board;
  waits = number_if wanted.added.waits images Waits board;
}

-- one of these, if it is asked for
abbrev pub asked_member : Column → Option ℤ → List Named
asked_member column None = []
asked_member column (Some n) = column_member column n ∷ []

-- all of these
abbrev pub added_members : LineNumbers → List Named
added_members n = asked_member Moves n.moves ++ (asked_member Keep n.keep ++ (asked_member Greedy n.greedy ++ (asked_member Trap n.trap
    ++ (asked_member Other n.other ++ asked_member Waits n.waits))))

-- the members of a board's line: those of its entry, and the numbers that are asked for
abbrev pub line_members : List ℕ → LineNumbers → List Named
line_members board n = entry_members board n.entry ++ added_members n

-- its line, with its line feed (10)
abbrev pub line_of : Form → List ℕ → LineNumbers → List ℕ
line_of form board n = row_text form (line_members board n) ++ 10 ∷ []

abbrev pub board_line : Wanted → List Image → List ℕ → List ℕ
board_line wanted images board = line_of wanted.form board (numbers_of wanted images board)

-- numbers of no board, for the names that lines with those that are asked for have
abbrev pub zero_if : Bool → Option ℤ
zero_if asked = if asked then Some (pos 0) else None

abbrev pub names_asked : Added → LineNumbers
names_asked added = record {
  entry = no_entry;
  moves = zero_if added.moves;
  keep = zero_if added.keep;
  greedy = zero_if added.greedy;
  trap = zero_if added.trap;
  other = zero_if added.other;
  waits = zero_if added.waits;
}

-- what stands above the lines: of CSV the names of their members
unfoldable pub header_text : Form → Added → List ℕ
header_text Text added = []
header_text Csv added = names_text (line_members [] (names_asked added)) ++ 10 ∷ []
header_text Json added = []

abbrev pub header_of : Wanted → List ℕ
header_of wanted = header_text wanted.form wanted.added

-- the lines of boards, with what the levels say of each
abbrev pub board_lines : Wanted → List Image → List (List ℕ) → List ℕ
board_lines wanted images boards = flat_map (board_line wanted images) boards

-- what was written are the lines of these boards, below what stands above them
abbrev pub AppendsLines : Wanted → List Image → List (List ℕ) → Option (List ℕ) → Option (List ℕ) → Type 0
AppendsLines wanted images boards before after = Appends before after (header_of wanted ++ board_lines wanted images boards)

-- Why boards of a level are not listed: 84, or as the entry of some rank is not read.
abbrev pub IsListFault : Source → ℕ → Stands → FolderFault → Type 0
IsListFault source level stands fault = (fault ≡ Memory) ⊎ IsUnreadFrom source level 0 (stands level) fault

-- value, distance and plan are in the spans that are asked for
unfoldable pub fits : Spans → Entry → Bool
fits spans e = is_in spans.value e.value && (is_in spans.distance (pos e.dist) && has spans.plan e.plan)

-- a board with this many legal moves has ended or has not, if that is asked for
abbrev pub is_of_kind : Wanted → ℕ → Bool
is_of_kind wanted moves = not (wanted.ended && nat_lt 0 moves) && not (wanted.running && moves == 0)

-- what the plan captures, and the largest capture, are in the spans that are asked for
unfoldable pub takes : Spans → List ℕ → Entry → Bool
takes spans board e = has spans.captures (captures_by board e.plan) && has spans.greedy (largest_capture board)

-- what the rules say of the board is as it is asked for: its stones, its moves, and what they capture
unfoldable pub suits : Wanted → List ℕ → Entry → Bool
suits wanted board e =
    is_in wanted.spans.side (pos (own_stones board)) && (is_in wanted.spans.moves (pos (legal_moves board)) && (takes wanted.spans board e
    && is_of_kind wanted (legal_moves board)))

-- what these moves gain is as it is asked for, on a board of this value: how many keep it, and what the largest capture throws away
abbrev pub weighs : Spans → List (Option Gained) → ℤ → Bool
weighs spans moves value = is_in spans.keep (pos (moves_gaining value moves)) && is_in spans.trap (lost_by value (greediest moves))

-- something is asked of what the moves of a board gain
abbrev pub asks_moves : Spans → Bool
asks_moves spans = is_some spans.keep || is_some spans.trap

-- The board turned has a value that is asked for, on a board with this many legal moves and of this value; and it is a burden to
-- move, if that is asked for.
abbrev pub turns : Wanted → ℕ → ℤ → ℤ → Bool
turns wanted moves value other = is_in wanted.spans.other other && not (wanted.waits && not (is_zugzwang moves value other))

-- something is asked of the board turned
abbrev pub asks_turned : Wanted → Bool
asks_turned wanted = wanted.waits || is_some wanted.spans.other

-- both are so of the board, by what the levels say
unfoldable pub is_weighed : Wanted → List Image → List ℕ → Bool
is_weighed wanted images board =
    weighs wanted.spans (gains_in images board) (entry_of images board).value && turns wanted (legal_moves board) (entry_of images board).value (other_value images board)

-- the board has all of that
unfoldable pub is_within : Wanted → List Image → List ℕ → Bool
is_within wanted images board =
    fits wanted.spans (entry_of images board) && (suits wanted board (entry_of images board) && is_weighed wanted images board)

-- what a board is sorted by, if it has all of that
abbrev pub sort_key : Option Order → List Image → List ℕ → ℤ
sort_key None images board = pos 0
sort_key (Some order) images board = key_of order (number_in images order.by board)

unfoldable pub key_if : Wanted → List Image → List ℕ → Option ℤ
key_if wanted images board = if is_within wanted images board then Some (sort_key wanted.order images board) else None

-- boards are sorted by a number that an entry and the rules say, if they are
abbrev pub sorts_by_own : Option Order → Bool
sorts_by_own None = true
sorts_by_own (Some order) = is_own order.by

-- lines have a number that other boards say
abbrev pub adds_others : Added → Bool
adds_others added = added.keep || (added.trap || (added.other || added.waits))

-- An entry and the rules say of a board whether it is wanted, and all that is printed of it: nothing is asked of what other boards are
-- worth.
pub record IsAlone (wanted : Wanted) : Type 0 where
  pub turned : asks_turned wanted ≡ false
  pub moves : asks_moves wanted.spans ≡ false
  pub added : adds_others wanted.added ≡ false
  pub order : sorts_by_own wanted.order ≡ true

-- the greatest distance of those of these boards, 0 if there are none
abbrev pub farthest_among : Wanted → List Image → List (List ℕ) → ℕ
farthest_among wanted images boards = greatest_dist (map (entry_of images) (filter (is_within wanted images) boards))

-- That of the boards of a level, if the farthest are asked for: `tuples 12 level` are the boards with this many stones in
-- lexicographic order.
unfoldable pub farthest_of : Wanted → List Image → ℕ → ℕ
farthest_of wanted images level = if wanted.farthest then farthest_among wanted images (tuples 12 level) else 0

-- the board has all of that, and has this distance, if the farthest are asked for
unfoldable pub passes : Wanted → ℕ → List Image → List ℕ → Bool
passes wanted farthest images board = is_within wanted images board && (not wanted.farthest || (entry_of images board).dist == farthest)

-- each k-th of a list, where this many came before it
abbrev pub each : {A : Type 0} → ℕ → ℕ → List A → List A
each k before [] = []
each k before (x ∷ xs) = if (before + 1) % k == 0 then x ∷ each k (before + 1) xs else each k (before + 1) xs

-- those of these boards of a level that pass, in order of rank
abbrev pub passing : Wanted → List Image → ℕ → List (List ℕ) → List (List ℕ)
passing wanted images level boards = filter (passes wanted (farthest_of wanted images level) images) boards

-- each of those boards that is due
abbrev pub due_boards : Wanted → List Image → ℕ → List (List ℕ)
due_boards wanted images level = each wanted.every 0 (passing wanted images level (tuples 12 level))

-- those of them that are taken
unfoldable pub taken_boards : Wanted → List Image → ℕ → List (List ℕ)
taken_boards wanted images level = taken (draw_of wanted.random wanted.seed (length (due_boards wanted images level))) (due_boards wanted images level)

-- these boards by rank, or by a number
abbrev pub ordered : Option Order → List Image → List (List ℕ) → List (List ℕ)
ordered None images boards = boards
ordered (Some order) images boards = sorted (sort_key (Some order) images) boards

-- the boards that are wanted of a level: the first ones of those
unfoldable pub wanted_boards : Wanted → List Image → ℕ → List (List ℕ)
wanted_boards wanted images level = first wanted.most (ordered wanted.order images (taken_boards wanted images level))
