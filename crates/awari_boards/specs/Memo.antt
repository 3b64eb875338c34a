-- The plays from boards that were counted.
use Rattle.std.specs.Prelude.{ℕ, Bool, ◌&&◌, nat_eq, bytes_eq, IfSome, List}
use Rattle.std.specs.HashMap.{HashMap, get}
use Rattle.awari_boards.specs.Plays.{AreCounts}
use Rattle.awari_boards.specs.declared.sums.PlayCounts.{PlayCounts}

-- a board, and how many plies are to come
abbrev pub Standing : Type 0
Standing = List ℕ × ℕ

abbrev pub is_same : Standing → Standing → Bool
is_same a b = bytes_eq a.0 b.0 && nat_eq a.1 b.1

-- What is kept of a board are its plays, whatever was captured before.
abbrev pub AreCounted : {S : Type 0} → HashMap Standing PlayCounts S → Type 0
AreCounted counts = (board : List ℕ) (plies before : ℕ) → IfSome (get is_same counts (board, plies)) (AreCounts plies before board)
