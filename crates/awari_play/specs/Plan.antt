-- The plan of a board, by the values and distances that a table says.
use Rattle.std.specs.Prelude.{◌≡◌, ℕ, ◌<◌, ◌⊎◌, List, pos, ◌-ℤ◌, ◌<ℤ◌, Option, Some, None}
use Rattle.awari_board.specs.Rules.{IsMove}
use Rattle.awari_table.specs.Certificate.{Table}

-- The move from pit x gains the board's value; and where that is positive, it captures or leads to a smaller distance.
abbrev pub Serves : Table → List ℕ → ℕ → Type 0
Serves t p x =
    (c : ℕ) × (q : List ℕ) × IsMove p x c q × ((pos c -ℤ t.value q) ≡ t.value p) × (pos 0 <ℤ t.value p → (0 < c) ⊎ (t.dist q < t.dist p))

-- the lowest pit that serves, or none where none does, as of an ended board
abbrev pub IsLowest : Table → List ℕ → Option ℕ → Type 0
IsLowest t p None = (x : ℕ) → Serves t p x → ⊥
IsLowest t p (Some x) = Serves t p x × ((y : ℕ) → y < x → Serves t p y → ⊥)
