-- Numbers of a board, by column.
use Rattle.std.specs.Prelude.{◌≡◌, ◌≤ℤ◌, ℕ, Bool, true, false, if◌then◌else◌, List, ℤ, pos, neg_ℤ, int_lt, Option, Some, None, slice_get}
use Rattle.std.specs.Fmt.{signed_decimal}
use Rattle.awari_queries.specs.declared.columns.Column.{Column}
use Rattle.awari_queries.specs.declared.columns.Column.TheVariants.{Rank, Value, Distance, Plan, Captures, Greedy, Moves, Keep, Trap, Other, Waits}
use Rattle.awari_members.specs.Members.{Named, missing}
use Rattle.awari_queries.specs.Columns.{name_of}
use Rattle.awari_rank.specs.Rank.{rank_of}
use Rattle.awari_rank.specs.Tuples.{tuples}
use Rattle.awari_table.specs.Images.{entry_of}
use Rattle.awari_table.specs.declared.images.Entry.{Entry}
use Rattle.awari_table.specs.declared.images.Image.{Image}
use Rattle.awari_facts.specs.Facts.{captures_by, keeping_moves, largest_capture, legal_moves, other_value, trap_of, waits_by}

-- a number, or -1 for none
abbrev pub or_less : Option ℕ → ℤ
or_less None = neg_ℤ (pos 1)
or_less (Some n) = pos n

-- the number of a column, by what these levels say
unfoldable pub number_in : List Image → Column → List ℕ → ℤ
number_in images Rank board = pos (rank_of board)
number_in images Value board = (entry_of images board).value
number_in images Distance board = pos (entry_of images board).dist
number_in images Plan board = or_less (entry_of images board).plan
number_in images Captures board = or_less (captures_by board (entry_of images board).plan)
number_in images Greedy board = or_less (largest_capture board)
number_in images Moves board = pos (legal_moves board)
number_in images Keep board = pos (keeping_moves images board)
number_in images Trap board = trap_of images board
number_in images Other board = other_value images board
number_in images Waits board = waits_by images board

-- an entry and the rules say the number, without a look at other boards
abbrev pub is_own : Column → Bool
is_own Rank = true
is_own Value = true
is_own Distance = true
is_own Plan = true
is_own Captures = true
is_own Greedy = true
is_own Moves = true
is_own Keep = false
is_own Trap = false
is_own Other = false
is_own Waits = false

-- it is one of these: none is below this
abbrev pub IsNumber : ℤ → Type 0
IsNumber n = neg_ℤ (pos 65536) ≤ℤ n

-- there is no such number: -1 stands for no plan, or for no capture
abbrev pub is_none : Column → ℤ → Bool
is_none Rank n = false
is_none Value n = false
is_none Distance n = false
is_none Plan n = int_lt n (pos 0)
is_none Captures n = int_lt n (pos 0)
is_none Greedy n = int_lt n (pos 0)
is_none Moves n = false
is_none Keep n = false
is_none Trap n = false
is_none Other n = false
is_none Waits n = false

-- a column with its number, or with what stands for none
abbrev pub column_member : Column → ℤ → Named
column_member column n = record { name = name_of column; value = if is_none column n then missing else (λ form. signed_decimal n) }

-- the board of a rank of a level, and its entry: `tuples 12 level` are the boards with this many stones in lexicographic order
pub record IsAt (images : List Image) (level rank : ℕ) (board : List ℕ) (e : Entry) : Type 0 where
  pub listed : slice_get (tuples 12 level) rank ≡ Some board
  pub entry : e ≡ entry_of images board
