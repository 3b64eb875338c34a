-- Why a pit can't be played.
use Rattle.std.specs.Prelude.{◌≡◌, ℕ, ◌<◌, ◌≤◌, List, slice_index, ℤ}
use Rattle.awari_faults.specs.Refusals.{Words, alone}
use Rattle.awari_board.specs.Rules.{IsLegal, IsEnd, other_stones, landing}
use Rattle.awari_board.specs.declared.moves.MoveFault.{MoveFault}
use Rattle.awari_board.specs.declared.moves.MoveFault.TheVariants.{NoPit, Ended, EmptyPit, MustFeed}

-- the number of each fault
abbrev pub number_of : MoveFault → ℕ
number_of NoPit = 4
number_of Ended = 7
number_of EmptyPit = 5
number_of MustFeed = 6

-- what is told of each
abbrev pub reason_of : MoveFault → Words
reason_of fault = alone (number_of fault)

-- The fault of a move from pit x. At most one is due: a fault is tested only where those before it are not due.
abbrev pub IsDue : List ℕ → ℕ → MoveFault → Type 0
IsDue board x NoPit = 6 ≤ x
IsDue board x Ended = (x < 6) × (gain : ℤ) × IsEnd board gain
IsDue board x EmptyPit = (x < 6) × ((y : ℕ) × IsLegal board y) × (slice_index board x ≡ 0)
IsDue board x MustFeed =
    (x < 6) × ((y : ℕ) × IsLegal board y) × (0 < slice_index board x) × (other_stones board ≡ 0) × ((s : ℕ) → 1 ≤ s → s ≤ slice_index board x → landing x s < 6)
