-- What is seen of a board by a table, and which rules it keeps. Private functions alone go by this.
use Rattle.std.specs.Prelude.{◌≡◌, ℕ, ◌<◌, ◌≤◌, ◌⊎◌, List, length, sum, ℤ, pos, neg_ℤ, ◌≤ℤ◌, ◌<ℤ◌, Option, Some, None, IfSome, IsSome, IsSomeAnd, IsNone, All, Any, slice_index_or}
use Rattle.awari_board.specs.Rules.{IsEnd, IsEnded}
use Rattle.awari_table.specs.Certificate.{Table}
use Rattle.awari_table.specs.Reached.{Reaches, gain_of}
use Rattle.awari_table.specs.declared.rules.Reached.{Reached}
use Rattle.awari_verify.specs.declared.rules.Seen.{Seen}

-- the gain of the board's end, or none where it is not ended
abbrev pub SeesEnd : List ℕ → Option ℤ → Type 0
SeesEnd p None = IsEnded p → ⊥
SeesEnd p (Some g) = IsEnd p g

-- all that the rules ask of a board
pub record Sees (t : Table) (p : List ℕ) (seen : Seen) : Type 0 where
  pub stones : seen.stones ≡ sum p
  pub value : seen.entry.value ≡ t.value p
  pub plan : seen.entry.plan ≡ t.plan p
  pub dist : seen.entry.dist ≡ t.dist p
  pub at_end : SeesEnd p seen.end
  pub six : length seen.moves ≡ 6
  pub moves : (x : ℕ) → x < 6 → Reaches t p x (slice_index_or seen.moves x None)

abbrev pub KeepsRange : Seen → Type 0
KeepsRange s = (neg_ℤ (pos s.stones) ≤ℤ s.entry.value) × (s.entry.value ≤ℤ pos s.stones) × IfSome s.entry.plan (λ x. x < 6)

abbrev pub KeepsEnd : Seen → Type 0
KeepsEnd s = IfSome s.end (λ g. (s.entry.value ≡ g) × (s.entry.plan ≡ None) × (s.entry.dist ≡ 0))

-- where the plan leads, if it is legal
abbrev pub move_at : List (Option Reached) → Option ℕ → Option Reached
move_at moves None = None
move_at moves (Some x) = slice_index_or moves x None

abbrev pub planned_of : Seen → Option Reached
planned_of s = move_at s.moves s.entry.plan

-- a move that captures or leads to a smaller distance
abbrev pub IsNearer : Reached → ℕ → Type 0
IsNearer m dist = (0 < m.captured) ⊎ (m.plies ≤ dist)

abbrev pub KeepsPlan : Seen → Type 0
KeepsPlan s = IsNone s.end → IsSome (planned_of s)

abbrev pub KeepsGain : Seen → Type 0
KeepsGain s = All (λ o. IfSome o (λ m. gain_of m ≤ℤ s.entry.value)) s.moves

abbrev pub KeepsPlanGain : Seen → Type 0
KeepsPlanGain s = IfSome (planned_of s) (λ m. gain_of m ≡ s.entry.value)

abbrev pub KeepsEven : Seen → Type 0
KeepsEven s = s.entry.value ≡ pos 0 → s.entry.dist ≡ 0

abbrev pub KeepsWinning : Seen → Type 0
KeepsWinning s = pos 0 <ℤ s.entry.value → IfSome (planned_of s) (λ m. IsNearer m s.entry.dist)

-- a move that gains the value in this many plies
abbrev pub GainsJustIn : ℤ → ℕ → Reached → Type 0
GainsJustIn value dist m = (gain_of m ≡ value) × (m.plies ≡ dist)

abbrev pub KeepsWon : Seen → Type 0
KeepsWon s =
    IsNone s.end → pos 0 <ℤ s.entry.value
    → Any (λ o. IsSomeAnd o (GainsJustIn s.entry.value s.entry.dist)) s.moves × All (λ o. IfSome o (λ m. gain_of m ≡ s.entry.value → s.entry.dist ≤ m.plies)) s.moves

abbrev pub KeepsLost : Seen → Type 0
KeepsLost s =
    IsNone s.end → s.entry.value <ℤ pos 0
    → Any (λ o. IsSomeAnd o (λ m. m.plies ≡ s.entry.dist)) s.moves × All (λ o. IfSome o (λ m. m.plies ≤ s.entry.dist)) s.moves

abbrev pub KeepsLeast : Seen → Type 0
KeepsLeast s = KeepsEven s × KeepsWon s × KeepsLost s × KeepsWinning s
