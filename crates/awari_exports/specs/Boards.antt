-- What is answered of a board by its stones, and its legal pits as bits.
use Rattle.std.specs.Prelude.{◌≡◌, ℕ, ◌+◌, ◌<◌, ◌≤◌, ◌⊎◌, Bool, true, false, List}
use Rattle.awari_board.specs.Tests.{is_legal}

-- The answer for a board with this many stones by this many levels: 0 if its level is there, and 3 or 59 if not.
pub record IsAnswer (stones levels answer : ℕ) : Type 0 where
  pub many : 48 < stones → answer ≡ 3
  pub known : stones ≤ 48 → stones < levels → answer ≡ 0
  pub not_yet : stones ≤ 48 → levels ≤ stones → answer ≡ 59

-- The same, and 84 if memory runs out.
pub record IsAnswerWithRoom (stones levels answer : ℕ) : Type 0 where
  pub many : 48 < stones → answer ≡ 3
  pub known : stones ≤ 48 → stones < levels → (answer ≡ 0) ⊎ (answer ≡ 84)
  pub not_yet : stones ≤ 48 → levels ≤ stones → answer ≡ 59

-- The answer for a place in a level: 0 if a board has it, 59 if no level is so high, and 93 if the level has fewer boards.
pub record IsPlaceAnswer (level rank size answer : ℕ) : Type 0 where
  pub found : level ≤ 24 → rank < size → answer ≡ 0
  pub high : 24 < level → answer ≡ 59
  pub none : level ≤ 24 → size ≤ rank → answer ≡ 93

-- the number, if it is so
abbrev pub bit_if : Bool → ℕ → ℕ
bit_if true bit = bit
bit_if false bit = 0

-- bit 0 is set if pit 0 is legal, and so on up to bit 5
abbrev pub legal_bits : List ℕ → ℕ
legal_bits board =
    bit_if (is_legal board 0) 1 + (bit_if (is_legal board 1) 2 + (bit_if (is_legal board 2) 4
    + (bit_if (is_legal board 3) 8 + (bit_if (is_legal board 4) 16 + bit_if (is_legal board 5) 32))))
