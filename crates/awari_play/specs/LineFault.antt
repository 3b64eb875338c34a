-- Why there is no line, the numbers of the faults, and what is told of them.
use Rattle.std.specs.Prelude.{◌≡◌, ℕ, ◌<◌, ◌≤◌, codes}
use Rattle.awari_faults.specs.Refusals.{Words, alone, with_number}
use Rattle.awari_play.specs.declared.lines.LineFault.{LineFault}
use Rattle.awari_play.specs.declared.lines.LineFault.TheVariants.{NotYet, Memory}

-- what is told of each
abbrev pub reason_of : LineFault → Words
reason_of (NotYet levels) = with_number 56 (codes "levels") levels
reason_of Memory = alone 57

abbrev pub number_of : LineFault → ℕ
number_of fault = (reason_of fault).number

-- The fault is the one for a board with this many stones, on a shelf with this many levels: want of memory only where the shelf has the
-- board's level.
abbrev pub IsDue : ℕ → ℕ → LineFault → Type 0
IsDue levels stones (NotYet n) = (n ≡ levels) × (levels ≤ stones)
IsDue levels stones Memory = stones < levels
