-- What a stored cell means.
use Rattle.std.specs.Prelude.{◌≡◌, ℕ, ◌-◌, ◌^◌, ◌<◌, ◌≤◌, ◌⊎◌, Bool, true, false, ℤ, pos, neg_ℤ, ◌≤ℤ◌}
use Rattle.awari_block.specs.Tally as tally
use Rattle.awari_block.specs.Tally.{Status, Ended, Open, Settled, Nothing, ByCapture, ByNotes, best_gain}
use Rattle.awari_block.specs.Steps.{best_after, pits_after}
use Rattle.awari_block.specs.declared.cells.Cell.{Cell}
use Rattle.awari_block.specs.declared.cells.Mark.{Mark}
use Rattle.awari_block.specs.declared.cells.Mark.TheVariants as mark
use Rattle.awari_block.specs.declared.stakes.Stake.{Stake}

abbrev pub status_by : Mark → ℤ → ℕ → ℕ → Status
status_by mark.Ended score plans dist = Ended score
status_by mark.Quiet score plans dist = Open Nothing plans dist
status_by mark.Capturing score plans dist = Open (ByCapture score) plans dist
status_by mark.Noted score plans dist = Open (ByNotes score) plans dist
status_by mark.Settled score plans dist = Settled score dist plans

abbrev pub status_of : Cell → Status
status_of c = status_by c.mark c.score c.plans c.dist

abbrev pub view_of : Cell → tally.Cell
view_of c = record { left = c.left; status = status_of c }

abbrev pub is_settled : Mark → Bool
is_settled mark.Settled = true
is_settled mark.Quiet = false
is_settled mark.Capturing = false
is_settled mark.Noted = false
is_settled mark.Ended = false

-- a note says that the move from pit x gains v
abbrev pub status_with_gain : Status → ℤ → ℕ → Status
status_with_gain (Ended gain) v x = Ended gain
status_with_gain (Open best pits far) v x = Open (best_after best v) (pits_after (best_gain best) pits v x) far
status_with_gain (Settled value dist pits) v x = Settled value dist pits

-- the board is not ended, and not settled
abbrev pub IsOpen : Mark → Type 0
IsOpen mark.Quiet = Unit {0}
IsOpen mark.Capturing = Unit {0}
IsOpen mark.Noted = Unit {0}
IsOpen mark.Ended = ⊥
IsOpen mark.Settled = ⊥

-- v is at most n stones, either way
abbrev pub IsWithin : ℕ → ℤ → Type 0
IsWithin n v = (neg_ℤ (pos n) ≤ℤ v) × (v ≤ℤ pos n)

-- v is at least t stones, either way
abbrev pub IsBeyond : ℕ → ℤ → Type 0
IsBeyond t v = (pos t ≤ℤ v) ⊎ (v ≤ℤ neg_ℤ (pos t))

-- v is t stones, either way
abbrev pub IsEither : ℕ → ℤ → Type 0
IsEither t v = (v ≡ pos t) ⊎ (v ≡ neg_ℤ (pos t))

-- Of the level of n stones at the open gain t: a settled value is between t and n stones, what is known gains at most n, an end
-- gains n, each either way, and the distance of an open cell can still grow by one.
abbrev pub FitsBy : Mark → ℕ → ℕ → ℤ → ℕ → Type 0
FitsBy mark.Settled n t score dist = IsWithin n score × IsBeyond t score
FitsBy mark.Quiet n t score dist = dist < 2 ^ 32 - 1
FitsBy mark.Capturing n t score dist = (dist < 2 ^ 32 - 1) × IsWithin n score
FitsBy mark.Noted n t score dist = (dist < 2 ^ 32 - 1) × IsWithin n score
FitsBy mark.Ended n t score dist = IsEither n score

abbrev pub Fits : Stake → Cell → Type 0
Fits stake c = FitsBy c.mark stake.level stake.gain c.score c.dist

-- in the level of n stones the opening of gain t may settle a board of this mark and score
abbrev pub MayOpen : Mark → ℤ → ℕ → ℕ → Type 0
MayOpen mark.Ended score n t = t ≡ n
MayOpen mark.Capturing score n t = IsEither t score
MayOpen mark.Quiet score n t = ⊥
MayOpen mark.Noted score n t = ⊥
MayOpen mark.Settled score n t = ⊥

-- in the level of n stones no opening settles a board of this cell
abbrev pub AwaitsNone : Cell → ℕ → Type 0
AwaitsNone c n = (t : ℕ) → MayOpen c.mark c.score n t → ⊥

-- ---- steps of a cell

-- a settled cell keeps value and distance
abbrev pub Keeps : Cell → Cell → Type 0
Keeps old new = is_settled old.mark ≡ true → (new.mark ≡ old.mark) × (new.score ≡ old.score) × (new.dist ≡ old.dist)

-- what is newly settled has the open gain as value, either way, and a distance that is not below the open one
abbrev pub IsAtStake : Stake → Cell → Type 0
IsAtStake stake c = IsEither stake.gain c.score × (stake.wave ≤ c.dist)

abbrev pub SettlesAtStake : Stake → Cell → Cell → Type 0
SettlesAtStake stake old new = is_settled old.mark ≡ false → is_settled new.mark ≡ true → IsAtStake stake new

-- what a cell awaits, it awaited before
abbrev pub AwaitsNoMore : Cell → Cell → Type 0
AwaitsNoMore old new = (n t : ℕ) → MayOpen new.mark new.score n t → MayOpen old.mark old.score n t

-- a note of this pit, of the open gain and wave, may be heard at the cell
pub record CanHearAt (stake : Stake) (pit : ℕ) (cell : Cell) : Type 0 where
  pub own : pit < 6
  pub low : stake.level ≤ 24
  pub opened : stake.gain ≤ stake.level
  pub near : stake.wave < 2 ^ 32 - 1
  pub fits : Fits stake cell

-- A step of a cell, which fits then: what was settled stays, nothing more is awaited, and what is newly settled is at stake.
pub record StepsCell (stake : Stake) (old new : Cell) : Type 0 where
  pub keeps : Keeps old new
  pub awaits : AwaitsNoMore old new
  pub timely : SettlesAtStake stake old new
  pub fits : Fits stake new
