-- What a shelf says of the legal moves of a board.
use Rattle.std.specs.Prelude.{◌≡◌, ◌↔◌, ℕ, ◌<◌, Bool, true, false, List, All, Contains, length, map, sum, count_by, ℤ, Some, None}
use Rattle.std.specs.List.Sorted.{IsStrictlyIncreasing}
use Rattle.std.specs.Ordering.{int_eq}
use Rattle.awari_board.specs.Rules.{IsLegal, IsMove}
use Rattle.awari_play.specs.MoveWorth.{IsMoveWorth, pit_of}
use Rattle.awari_play.specs.declared.replies.Replies.{Replies}
use Rattle.awari_play.specs.declared.worths.MoveWorth.{MoveWorth}
use Rattle.awari_table.specs.Images.{entry_of, table_of}
use Rattle.awari_table.specs.declared.images.Image.{Image}
use Rattle.awari_play.specs.declared.weighing.Weighed.{Weighed}
use Rattle.awari_play.specs.declared.weighing.WeighedMove.{WeighedMove}

-- These are the legal moves of the board, ascending by pit, with what each is worth by the shelf.
pub record AreWorths (shelf : List Image) (board : List ℕ) (worths : List MoveWorth) : Type 0 where
  pub legal : (pit : ℕ) → Contains (map pit_of worths) pit ↔ IsLegal board pit
  pub ascending : IsStrictlyIncreasing (map pit_of worths)
  pub worth : All (IsMoveWorth (table_of shelf) board) worths

-- the move gains this value
abbrev pub keeps : ℤ → MoveWorth → Bool
keeps value w = int_eq w.value value

-- How many legal moves the board has that the move from this pit leaves, and how many of them gain what that board is worth.
pub record AreReplies (shelf : List Image) (board : List ℕ) (pit : ℕ) (r : Replies) : Type 0 where
  pub captured : ℕ
  pub next : List ℕ
  pub move : IsMove board pit captured next
  pub replies : List MoveWorth
  pub worths : AreWorths shelf next replies
  pub every : r.all ≡ length replies
  pub keep : r.keep ≡ count_by (keeps (entry_of shelf next).value) replies

abbrev pub worth_in : WeighedMove → MoveWorth
worth_in m = m.worth

-- the replies to the move, if they were asked for
abbrev pub IsReplied : Bool → List Image → List ℕ → WeighedMove → Type 0
IsReplied false shelf board m = m.replies ≡ None
IsReplied true shelf board m = (replies : Replies) × (m.replies ≡ Some replies) × AreReplies shelf board m.worth.pit replies

-- The entry is the shelf's of the board, and these are its legal moves with what each is worth, and with their replies if these were asked for.
pub record IsWeighed (asked : Bool) (shelf : List Image) (board : List ℕ) (w : Weighed) : Type 0 where
  pub known : sum board < length shelf
  pub entry : w.entry ≡ entry_of shelf board
  pub worths : AreWorths shelf board (map worth_in w.moves.items)
  pub replies : All (IsReplied asked shelf board) w.moves.items
