-- The faults of a core, as they are printed.
use Rattle.std.specs.Prelude.{ℕ}
use Rattle.awari_faults.specs.Refusals.{Words, alone}
use Rattle.awari_core.specs.declared.faults.CoreFault.{CoreFault}
use Rattle.awari_core.specs.declared.faults.CoreFault.TheVariants.{NotEnabled, Owners, Room, TooHigh, Memory, NotQuiet}

-- the number of each fault
abbrev pub number_of : CoreFault → ℕ
number_of NotEnabled = 34
number_of Owners = 35
number_of Room = 36
number_of TooHigh = 37
number_of Memory = 38
number_of NotQuiet = 39

-- what is told of each
abbrev pub reason_of : CoreFault → Words
reason_of fault = alone (number_of fault)
