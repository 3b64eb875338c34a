-- Why a text is no board.
use Rattle.std.specs.Prelude.{◌≢◌, ℕ, ◌<◌, List, Contains, sum}
use Rattle.awari_faults.specs.Refusals.{Words, alone}
use Rattle.awari_board.specs.Text.{IsShaped, IsReadAs, fields, digits}
use Rattle.awari_board.specs.declared.text.BoardFault.{BoardFault}
use Rattle.awari_board.specs.declared.text.BoardFault.TheVariants.{Shape, Number, TooMany}

-- the number of each fault
abbrev pub number_of : BoardFault → ℕ
number_of Shape = 1
number_of Number = 2
number_of TooMany = 3

-- what is told of each
abbrev pub reason_of : BoardFault → Words
reason_of fault = alone (number_of fault)

-- The fault of a text. At most one is due: a fault is tested only where those before it are not due.
abbrev pub IsFaulty : List ℕ → BoardFault → Type 0
IsFaulty text Shape = IsShaped text → ⊥
IsFaulty text Number = IsShaped text × (field : List ℕ) × Contains (fields text) field × ((n : ℕ) → n < 100 → field ≢ digits n)
IsFaulty text TooMany = (counts : List ℕ) × IsReadAs text counts × (48 < sum counts)
