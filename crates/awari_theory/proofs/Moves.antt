-- Moves, as the theory takes them.
use Rattle.std.proofs.Common.{◌≡◌, ℕ, ◌+◌, List, sum, refl}
use Rattle.awari_board.specs.Rules.{IsBoard, IsLegal, IsMove, captured, next_board}
use Rattle.awari_board.proofs.Keeping.{IsBoard-next, sum-from_IsMove}

-- a move loses no stone
pub stones_kept : (p : List ℕ) (x c : ℕ) (q : List ℕ) → IsBoard p → IsMove p x c q → sum q + c ≡ sum p
stones_kept p x c q board move = sum-from_IsMove p x c q board.pits move

-- the move of a legal pit
pub move_of : (p : List ℕ) (x : ℕ) → IsLegal p x → IsMove p x (captured p x) (next_board p x)
move_of p x legal = record { legal = legal; captures = refl; leaves = refl }
