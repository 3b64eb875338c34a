-- A line of play ply by ply, and where it comes back to a board.
use Rattle.std.specs.Prelude.{◌≡◌, ℕ, ◌+◌, ◌<◌, Bool, true, false, List, [], ◌∷◌, length, map, slice_get, ℤ, pos, Option, Some, None}
use Rattle.std.specs.Ordering.{int_eq}
use Rattle.awari_board.specs.Rules.{captured}
use Rattle.awari_game.specs.Plays.{Standing, start, after}
use Rattle.awari_table.specs.Images.{entry_of, greatest_limit, table_of}
use Rattle.awari_table.specs.declared.images.Image.{Image}
use Rattle.awari_play.specs.BestLine.{IsBestLine}
use Rattle.awari_play.specs.LongestLine.{IsLongestLine}
use Rattle.awari_play.specs.declared.plies.Ply.{Ply}
use Rattle.awari_play.specs.declared.plies.Repeat.{Repeat}

-- what is told of ply n, which plays pit x from this standing: what it captures, what the first mover has then captured less the
-- second, and the board then with its entry
abbrev pub ply_of : List Image → ℕ → Standing → ℕ → Ply
ply_of images n s x = record {
  number = n;
  pit = x;
  captured = captured s.board x;
  running = (after s x).running;
  board = (after s x).board;
  entry = entry_of images (after s x).board;
}

-- the plies of a play from this standing, of which the first is ply n
unfoldable pub plies_of : List Image → ℕ → Standing → List ℕ → List Ply
plies_of images n s [] = []
plies_of images n s (x ∷ xs) = ply_of images n s x ∷ plies_of images (n + 1) (after s x) xs

-- the boards that stand after no ply, after one ply, and so on
abbrev pub boards_in : List ℕ → List Ply → List (List ℕ)
boards_in board plies = board ∷ map (λ ply. ply.board) plies

-- no board of the first n stands twice
abbrev pub NoneRepeats : List (List ℕ) → ℕ → Type 0
NoneRepeats boards n = (i j : ℕ) → i < j → j < n → slice_get boards i ≡ slice_get boards j → ⊥

-- The board that stands after ply `again` stood after ply `first` already, and no board stood again before it.
pub record IsFirstRepeat (boards : List (List ℕ)) (r : Repeat) : Type 0 where
  pub before : r.first < r.again
  pub within : r.again < length boards
  pub same : slice_get boards r.first ≡ slice_get boards r.again
  pub none : NoneRepeats boards r.again

-- where a board first stands again, or none if none does
abbrev pub IsRepeat : List (List ℕ) → Option Repeat → Type 0
IsRepeat boards None = NoneRepeats boards (length boards)
IsRepeat boards (Some r) = IsFirstRepeat boards r

-- a repeat is looked for if the board is even
abbrev pub IsRepeatIf : Bool → List (List ℕ) → Option Repeat → Type 0
IsRepeatIf true boards r = IsRepeat boards r
IsRepeatIf false boards r = r ≡ None

-- the line in which one side holds out, or that in which both follow the plans, by the greatest limit of the levels
abbrev pub IsLineBy : Bool → List Image → List ℕ → List ℕ → Type 0
IsLineBy true images board moves = IsLongestLine (table_of images) board moves
IsLineBy false images board moves = (outcome : ℤ) × IsBestLine (table_of images) (greatest_limit images) board moves outcome

-- By the images these are the plies of such a line from the board. If the board is even, this is where the line first comes back to
-- a board.
pub record AreLinePlies (longest : Bool) (images : List Image) (board : List ℕ) (plies : List Ply) (repeat : Option Repeat) : Type 0 where
  pub moves : List ℕ
  pub line : IsLineBy longest images board moves
  pub each : plies ≡ plies_of images 1 (start board) moves
  pub repeats : IsRepeatIf (int_eq (entry_of images board).value (pos 0)) (boards_in board plies) repeat
