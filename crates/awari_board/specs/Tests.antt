-- Tests of the rules, which compute: which pits are legal, and whether the board is ended.
use Rattle.std.specs.Prelude.{ℕ, ◌+◌, Bool, not, ◌&&◌, ◌||◌, nat_lt, List, slice_index}
use Rattle.awari_board.specs.Rules.{other_stones}

-- whether pit x is legal: where the opponent has no stone, the sowing has to get past the own pits
abbrev pub is_legal : List ℕ → ℕ → Bool
is_legal board x = nat_lt x 6 && (nat_lt 0 (slice_index board x) && (nat_lt 0 (other_stones board) || nat_lt 5 (x + slice_index board x)))

-- whether no pit is legal
abbrev pub is_ended : List ℕ → Bool
is_ended board = not (is_legal board 0 || (is_legal board 1 || (is_legal board 2 || (is_legal board 3 || (is_legal board 4 || is_legal board 5)))))
