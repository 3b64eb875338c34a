-- Plays: sequences of legal moves, what they earn, and where they end.
use Rattle.std.specs.Prelude.{◌≡◌, ℕ, ◌+◌, ◌<◌, ◌==◌, ◌⊎◌, Bool, true, not, if◌then◌else◌, List, [], ◌∷◌, ℤ, pos, ◌+ℤ◌, ◌-ℤ◌, Option, Some, ◌*◌, ◌++◌, length, sum}
use Rattle.awari_board.specs.Rules.{IsLegal, IsEnd, IsEnded, captured, next_board}

-- Where a play stands: the board as its mover sees it, what the first mover captured less what the second captured,
-- whether the first mover is to move, and the plies since the last capture or the start.
pub record Standing : Type 0 where
  pub board : List ℕ
  pub running : ℤ
  pub first_moves : Bool
  pub quiet : ℕ

abbrev pub start : List ℕ → Standing
start board = record { board = board; running = pos 0; first_moves = true; quiet = 0 }

-- a count of stones, as the first mover sees it when this side has taken it
abbrev pub signed : Bool → ℤ → ℤ → ℤ
signed first_moves running c = if first_moves then running +ℤ c else running -ℤ c

-- the standing after pit x is played
abbrev pub after : Standing → ℕ → Standing
after s x = record {
  board = next_board s.board x;
  running = signed s.first_moves s.running (pos (captured s.board x));
  first_moves = not s.first_moves;
  quiet = if captured s.board x == 0 then s.quiet + 1 else 0;
}

-- the pits are legal one after another, and lead from one standing to the other
abbrev pub IsPlay : Standing → List ℕ → Standing → Type 0
IsPlay from [] to = to ≡ from
IsPlay from (x ∷ xs) to = IsLegal from.board x × IsPlay (after from x) xs to

-- The outcome, seen by the first mover: with the gain of the end where the board is ended; and what was captured so far
-- where it is not and no stone was captured for more than `limit` plies.
abbrev pub IsOutcome : ℕ → Standing → ℤ → Type 0
IsOutcome limit s outcome =
    ((gain : ℤ) × IsEnd s.board gain × (outcome ≡ signed s.first_moves s.running gain))
    ⊎ ((IsEnded s.board → ⊥) × (limit < s.quiet) × (outcome ≡ s.running))

-- each ply of the first mover (of the second, at false) is what the plan says of its board
abbrev pub Follows : (List ℕ → Option ℕ) → Bool → Standing → List ℕ → Type 0
Follows plan first s [] = Unit {0}
Follows plan first s (x ∷ xs) = (s.first_moves ≡ first → plan s.board ≡ Some x) × Follows plan first (after s x) xs

-- Every play that is longer than this comes to an outcome on the way. A yes does not use this.
abbrev pub Ends : List ℕ → Type 0
Ends p =
    (most : ℕ) (xs : List ℕ) (s : Standing)
    → IsPlay (start p) xs s
    → sum p * (most + 2) + (most + 1) < length xs
    → (ys zs : List ℕ) × (to : Standing) × (outcome : ℤ) × (xs ≡ ys ++ zs) × IsPlay (start p) ys to × IsOutcome most to outcome
