-- Why a desk is not made, a level not published, or nobody told.
use Rattle.std.specs.Prelude.{ℕ}
use Rattle.awari_faults.specs.Refusals.{Words, alone}
use Rattle.awari_desk.specs.declared.faults.DeskFault.{DeskFault}
use Rattle.awari_desk.specs.declared.faults.DeskFault.TheVariants.{NotNext, Readers, Memory}

-- the number of each fault
abbrev pub number_of : DeskFault → ℕ
number_of NotNext = 71
number_of Readers = 72
number_of Memory = 73

-- what is told of each
abbrev pub reason_of : DeskFault → Words
reason_of fault = alone (number_of fault)
