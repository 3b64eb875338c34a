-- What is known of a board beside its entry: by the rules alone, or by what levels say of the boards that its moves leave.
use Rattle.std.specs.Prelude.{ℕ, ◌==◌, Bool, false, ◌&&◌, ◌||◌, nat_lt, if◌then◌else◌, List, fold, count_by, map, max, ℤ, pos, neg_ℤ, ◌-ℤ◌, int_lt, Option, Some, None}
use Rattle.std.specs.List.{range_with_len}
use Rattle.std.specs.Ordering.{int_eq}
use Rattle.awari_board.specs.Rules.{captured, next_board, turned}
use Rattle.awari_board.specs.Tests.{is_legal}
use Rattle.awari_table.specs.Images.{entry_of}
use Rattle.awari_table.specs.declared.images.Image.{Image}
use Rattle.awari_facts.specs.declared.looks.Gained.{Gained}

-- the mover's pits
abbrev pub own_pits : List ℕ
own_pits = range_with_len 0 6

-- how many moves are legal
abbrev pub legal_moves : List ℕ → ℕ
legal_moves board = count_by (is_legal board) own_pits

-- the stones that the plan's move captures, if there is a plan and its move is legal
abbrev pub captures_by : List ℕ → Option ℕ → Option ℕ
captures_by board None = None
captures_by board (Some x) = if is_legal board x then Some (captured board x) else None

-- the stones that the move from a pit captures, 0 if it is not legal
abbrev pub captured_by : List ℕ → ℕ → ℕ
captured_by board x = if is_legal board x then captured board x else 0

-- the most that a legal move from one of these pits captures, and from one of the mover's
abbrev pub most_of : List ℕ → List ℕ → ℕ
most_of board pits = fold (λ most x. max most (captured_by board x)) 0 pits

abbrev pub most_captured : List ℕ → ℕ
most_captured board = most_of board own_pits

-- the stones of the largest capture among the legal moves, if one of them captures
abbrev pub largest_capture : List ℕ → Option ℕ
largest_capture board = if most_captured board == 0 then None else Some (most_captured board)

-- What a legal move captures, and what the mover gains by it: that, less the value of the board that it leaves.
abbrev pub gained_by : List Image → List ℕ → ℕ → Option Gained
gained_by images board x =
    if is_legal board x
    then Some (record { captured = captured board x; value = pos (captured board x) -ℤ (entry_of images (next_board board x)).value })
    else None

-- what each of the mover's pits gives
abbrev pub gains_in : List Image → List ℕ → List (Option Gained)
gains_in images board = map (gained_by images board) own_pits

-- there is a move, and the mover gains this value by it
abbrev pub gains : ℤ → Option Gained → Bool
gains value None = false
gains value (Some g) = int_eq g.value value

-- how many of these moves gain this value
abbrev pub moves_gaining : ℤ → List (Option Gained) → ℕ
moves_gaining value moves = count_by (gains value) moves

-- how many legal moves gain what the board is worth
abbrev pub keeping_moves : List Image → List ℕ → ℕ
keeping_moves images board = moves_gaining (entry_of images board).value (gains_in images board)

-- what the board would be worth to the opponent, if the opponent were to move: the value of the board turned
abbrev pub other_value : List Image → List ℕ → ℤ
other_value images board = (entry_of images (turned board)).value

-- A board with this many legal moves is zugzwang if one is legal, and the board is worth less to the mover than it would be if the
-- opponent had to move. It has this value to the mover, and the other one to the opponent who has to move.
abbrev pub is_zugzwang : ℕ → ℤ → ℤ → Bool
is_zugzwang moves value other = nat_lt 0 moves && int_lt value (neg_ℤ other)

-- how many stones less: the mover loses them by having to move; 0 if the board is not zugzwang
abbrev pub lost_by_moving : ℕ → ℤ → ℤ → ℤ
lost_by_moving moves value other = if is_zugzwang moves value other then neg_ℤ other -ℤ value else pos 0

-- both of a board, by what the levels say
abbrev pub waits : List Image → List ℕ → Bool
waits images board = is_zugzwang (legal_moves board) (entry_of images board).value (other_value images board)

abbrev pub waits_by : List Image → List ℕ → ℤ
waits_by images board = lost_by_moving (legal_moves board) (entry_of images board).value (other_value images board)

-- the one of two moves that captures more; of those that capture as many, the one that gains more
abbrev pub greedier : Gained → Option Gained → Gained
greedier most None = most
greedier most (Some g) = if nat_lt most.captured g.captured || (g.captured == most.captured && int_lt most.value g.value) then g else most

-- what stands for a move that captures nothing
abbrev pub no_capture : Gained
no_capture = record { captured = 0; value = pos 0 }

-- the one of these moves that captures most; if none captures, it captures 0
abbrev pub greediest : List (Option Gained) → Gained
greediest moves = fold greedier no_capture moves

-- what is thrown away by the move that captures most, if this is the value: the value less what it gains; 0 if no move captures
abbrev pub lost_by : ℤ → Gained → ℤ
lost_by value g = if g.captured == 0 then pos 0 else value -ℤ g.value

-- the board's trap
abbrev pub trap_of : List Image → List ℕ → ℤ
trap_of images board = lost_by (entry_of images board).value (greediest (gains_in images board))
