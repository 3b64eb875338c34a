-- The rules of the game: boards, moves and the end of play. docs/RULES.md tells them with pictures.
-- Sowing is defined by counting: how many of a pit's stones fall into each pit.
use Rattle.std.specs.Prelude.{◌≡◌, ℕ, ◌+◌, ◌-◌, ◌%◌, ◌<◌, ◌≤◌, ◌==◌, Bool, ◌&&◌, ◌||◌, nat_lt, nat_le, if◌then◌else◌, List, ◌++◌, length, take, drop, sum, reverse, slice_index, count_by, map, ℤ, pos, neg_ℤ, take_while}
use Rattle.std.specs.List.{range_with_len}

-- A board is twelve pits with at most 48 stones. Pits 0 to 5 are the mover's, 6 to 11 the opponent's.
pub record IsBoard (board : List ℕ) : Type 0 where
  pub pits : length board ≡ 12
  pub stones : sum board ≤ 48

-- the stones on the mover's side, and on the opponent's
abbrev pub own_stones : List ℕ → ℕ
own_stones board = sum (take 6 board)

abbrev pub other_stones : List ℕ → ℕ
other_stones board = sum (drop 6 board)

-- the board as the other player sees it
abbrev pub turned : List ℕ → List ℕ
turned board = drop 6 board ++ take 6 board

-- where stone s of a sowing from pit x falls, s counted from 1: the pits after x in a circle, x left out
abbrev pub landing : ℕ → ℕ → ℕ
landing x s = (x + 1 + (s - 1) % 11) % 12

-- how many of the first k stones of a sowing from pit x fall into pit i
abbrev pub fallen : ℕ → ℕ → ℕ → ℕ
fallen x k i = count_by (λ s. landing x s == i) (range_with_len 1 k)

-- pit x emptied, and its stones sown
abbrev pub sown : List ℕ → ℕ → List ℕ
sown board x = map (λ i. (if i == x then 0 else slice_index board i) + fallen x (slice_index board x) i) (range_with_len 0 12)

-- where the last stone falls
abbrev pub last_pit : List ℕ → ℕ → ℕ
last_pit board x = landing x (slice_index board x)

-- a pit that can be captured
abbrev pub is_takeable : ℕ → Bool
is_takeable stones = stones == 2 || stones == 3

-- The pits of the opponent's side from `last` backward, as long as each can be captured.
abbrev pub run : List ℕ → ℕ → List ℕ
run board last = take_while is_takeable (reverse (drop 6 (take (last + 1) board)))

-- how many pits are captured: the run, or none where it holds all that the opponent has
abbrev pub captured_pits : List ℕ → ℕ → ℕ
captured_pits board last = if sum (run board last) == other_stones board then 0 else length (run board last)

-- the stones of the captured pits
abbrev pub captured_stones : List ℕ → ℕ → ℕ
captured_stones board last = if sum (run board last) == other_stones board then 0 else sum (run board last)

-- the board with the n pits up to `last` emptied
abbrev pub emptied : List ℕ → ℕ → ℕ → List ℕ
emptied board last n = map (λ i. if nat_lt last (i + n) && nat_le i last then 0 else slice_index board i) (range_with_len 0 12)

-- A move is legal from an own pit that holds stones; where the opponent has none, it has to sow one there.
pub record IsLegal (board : List ℕ) (x : ℕ) : Type 0 where
  pub own : x < 6
  pub held : 0 < slice_index board x
  pub feeds : other_stones board ≡ 0 → (s : ℕ) × (1 ≤ s) × (s ≤ slice_index board x) × (6 ≤ landing x s)

abbrev pub captured : List ℕ → ℕ → ℕ
captured board x = captured_stones (sown board x) (last_pit board x)

abbrev pub next_board : List ℕ → ℕ → List ℕ
next_board board x = turned (emptied (sown board x) (last_pit board x) (captured_pits (sown board x) (last_pit board x)))

-- the legal move from pit x captures c stones, and leaves this board to the other player
pub record IsMove (board : List ℕ) (x : ℕ) (c : ℕ) (next : List ℕ) : Type 0 where
  pub legal : IsLegal board x
  pub captures : c ≡ captured board x
  pub leaves : next ≡ next_board board x

-- the board is ended where no pit is legal; the mover then gains g
pub record IsEnd (board : List ℕ) (gain : ℤ) : Type 0 where
  pub stuck : (x : ℕ) → IsLegal board x → ⊥
  pub gains : gain ≡ (if own_stones board == 0 then neg_ℤ (pos (sum board)) else pos (sum board))

-- no pit is legal
abbrev pub IsEnded : List ℕ → Type 0
IsEnded board = (x : ℕ) → IsLegal board x → ⊥
