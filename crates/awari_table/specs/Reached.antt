-- A move and what a table says of the board that it leaves.
use Rattle.std.specs.Prelude.{◌≡◌, ℕ, List, ℤ, pos, ◌-ℤ◌, Option, Some, None}
use Rattle.awari_board.specs.Rules.{IsLegal, IsMove}
use Rattle.awari_table.specs.Certificate.{Table, plies}
use Rattle.awari_table.specs.declared.rules.Reached.{Reached}

-- what the move from pit x captures and leads to, or none where it is not legal
abbrev pub Reaches : Table → List ℕ → ℕ → Option Reached → Type 0
Reaches t p x None = IsLegal p x → ⊥
Reaches t p x (Some m) = (q : List ℕ) × IsMove p x m.captured q × (m.value ≡ t.value q) × (m.plies ≡ plies m.captured (t.dist q))

-- what a move gains
abbrev pub gain_of : Reached → ℤ
gain_of m = pos m.captured -ℤ m.value
