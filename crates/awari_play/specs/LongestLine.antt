-- The line of play in which the favoured side follows the plans of a table, and the other side holds out as long as it can.
use Rattle.std.specs.Prelude.{◌≡◌, ◌≢◌, ◌⊎◌, ℕ, ◌<◌, Bool, not, List, [], ◌∷◌, length, take, pos, int_lt, ◌<ℤ◌, Some}
use Rattle.awari_board.specs.Rules.{IsMove, IsEnded, IsLegal}
use Rattle.awari_game.specs.Plays.{Standing, start, after, IsPlay, Follows}
use Rattle.awari_table.specs.Certificate.{Table, plies, MovesNoLater}

-- The move from pit x takes the most plies of all legal moves of the board, and that from each lower pit takes fewer.
pub record HoldsLongest (t : Table) (p : List ℕ) (x : ℕ) : Type 0 where
  pub captured : ℕ
  pub next : List ℕ
  pub move : IsMove p x captured next
  pub most : MovesNoLater t p (plies captured (t.dist next))
  pub lowest : (y c : ℕ) (q : List ℕ) → y < x → IsMove p y c q → plies c (t.dist q) < plies captured (t.dist next)

-- The pit is legal. It is the plan of a board that favours its mover, and the pit that holds out longest on one that favours the
-- opponent.
pub record IsDuePit (t : Table) (p : List ℕ) (x : ℕ) : Type 0 where
  pub legal : IsLegal p x
  pub favoured : pos 0 <ℤ t.value p → t.plan p ≡ Some x
  pub other : t.value p <ℤ pos 0 → HoldsLongest t p x

-- each ply of the first mover (of the second, at false) is the pit of its board that holds out longest
abbrev pub HoldsOut : Table → Bool → Standing → List ℕ → Type 0
HoldsOut t first s [] = Unit {0}
HoldsOut t first s (x ∷ xs) = (s.first_moves ≡ first → HoldsLongest t s.board x) × HoldsOut t first (after s x) xs

-- the table says that the mover of this board gains
abbrev pub favours_mover : Table → List ℕ → Bool
favours_mover t p = int_lt (pos 0) (t.value p)

-- The moves are a play from the board. The side that the board favours plays what the plan says, and the other side the pit that
-- holds out longest. No ply but the last captures; and the last, if there is one, captures or leaves an ended board. There are as
-- many plies as the distance of the board.
pub record IsLongestLine (t : Table) (board moves : List ℕ) : Type 0 where
  pub last : Standing
  pub play : IsPlay (start board) moves last
  pub favoured : Follows t.plan (favours_mover t board) (start board) moves
  pub other : HoldsOut t (not (favours_mover t board)) (start board) moves
  pub quiet : (n : ℕ) (s : Standing) → n < length moves → IsPlay (start board) (take n moves) s → s.quiet ≡ n
  pub ends : moves ≢ [] → (last.quiet ≡ 0) ⊎ IsEnded last.board
  pub size : length moves ≡ t.dist board
