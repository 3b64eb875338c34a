-- Where sowings ended on their player's own side, by the pits that hold stones afterwards.
use Rattle.std.specs.Prelude.{◌≡◌, ℕ, zero, suc, ◌+◌, ◌*◌, ◌-◌, ◌/◌, ◌%◌, ◌^◌, ◌<◌, ◌≤◌, ◌==◌, Bool, ◌&&◌, nat_lt, not, if◌then◌else◌, Option, List, length, slice_index}
use Rattle.awari_board.specs.Rules.{other_stones}
use Rattle.awari_unmove.specs.Undoing.{unmove, listed}

-- whether pit i holds stones
abbrev pub holds : List ℕ → ℕ → Bool
holds board i = nat_lt 0 (slice_index board i)

-- whether bit i of a number is set
abbrev pub has_bit : ℕ → ℕ → Bool
has_bit n i = n / 2 ^ i % 2 == 1

-- the last empty pit before pit j, or pit 0 if there is none
unfoldable pub origin_of : (ℕ → Bool) → ℕ → ℕ
origin_of held zero = 0
origin_of held (suc j) = if held j then origin_of held j else j

-- whether pit j holds stones, and a pit before it is empty
abbrev pub is_end : (ℕ → Bool) → ℕ → Bool
is_end held j = held j && not (held (origin_of held j))

-- such pits, of the n from pit j on, as digits in base 64, the first lowest: each as eight times the origin, and the pit
unfoldable pub steps_from : (ℕ → Bool) → ℕ → ℕ → ℕ
steps_from held j zero = 0
steps_from held j (suc n) = let more = steps_from held (j + 1) n in if is_end held j then 8 * origin_of held j + j + 64 * more else more

-- the board and pit whose move ends in pit j of the own side and gives `back`, if there is one
unfoldable pub own_unmove : List ℕ → ℕ → Option (List ℕ × ℕ)
own_unmove back j = unmove back (origin_of (holds back) j) (j - origin_of (holds back) j)

-- those that end in pit j or after it
unfoldable pub own_unmoves : List ℕ → ℕ → List (List ℕ × ℕ)
own_unmoves back j = listed (own_unmove back) j (6 - j)

-- a search that has still to give those that end in pit `from` or after it, from their steps
pub record IsOwnSearch (back : List ℕ) (steps from : ℕ) : Type 0 where
  pub size : length back ≡ 12
  pub in_range : from ≤ 6
  pub are : steps ≡ steps_from (holds back) from (6 - from)
  pub fed : from < 6 → 0 < other_stones back
