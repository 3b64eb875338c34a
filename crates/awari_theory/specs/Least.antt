-- How soon the side that a board favours can bring a capture or the end of play, with no table, by moves that keep what the
-- board is worth.
use Rattle.std.specs.Prelude.{◌≡◌, ℕ, zero, suc, ◌<◌, ◌≤◌, ◌⊎◌, List, ℤ, pos, ◌-ℤ◌, ◌<ℤ◌}
use Rattle.awari_board.specs.Rules.{IsMove, IsEnded}
use Rattle.awari_theory.specs.Worth.{IsWorth}

-- The board is ended. Or it is won, and some move gains what it is worth, and captures or leads to a board within k - 1 plies.
-- Or it is lost, and every quiet move leads to a board within k - 1 plies.
abbrev pub Within : ℕ → List ℕ → Type 0
Within zero p = IsEnded p
Within (suc k) p =
    IsEnded p
    ⊎ ((w : ℤ) × IsWorth p w × (pos 0 <ℤ w)
    × ((x : ℕ) × (c : ℕ) × (q : List ℕ) × (v : ℤ) × IsMove p x c q × IsWorth q v × ((pos c -ℤ v) ≡ w) × ((0 < c) ⊎ Within k q)))
    ⊎ ((w : ℤ) × IsWorth p w × (w <ℤ pos 0) × ((x : ℕ) (q : List ℕ) → IsMove p x 0 q → Within k q))

-- 0 for a board that is worth 0, and else the least number of plies that it is within
abbrev pub IsLeastDistance : List ℕ → ℕ → Type 0
IsLeastDistance p d =
    (IsWorth p (pos 0) × (d ≡ 0)) ⊎ ((IsWorth p (pos 0) → ⊥) × Within d p × ((k : ℕ) → Within k p → d ≤ k))
