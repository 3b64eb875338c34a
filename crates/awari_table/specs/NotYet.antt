-- What is told where a board's level is not on the shelf.
use Rattle.std.specs.Prelude.{codes}
use Rattle.awari_faults.specs.Refusals.{Words, with_number}
use Rattle.awari_table.specs.declared.shelves.NotYet.{NotYet}

-- its number, and how many levels there are
abbrev pub reason_of : NotYet → Words
reason_of fault = with_number 59 (codes "levels") fault.levels
