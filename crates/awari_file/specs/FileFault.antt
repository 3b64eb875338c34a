-- The numbers of the refusals, and what is told of them.
use Rattle.std.specs.Prelude.{ℕ}
use Rattle.awari_faults.specs.Refusals.{Words, alone}
use Rattle.awari_file.specs.declared.faults.FileFault.{FileFault}
use Rattle.awari_file.specs.declared.faults.FileFault.TheVariants.{Truncated, Magic, Version, LevelOutOfRange, Count, EntryForm, Digest, Trailing, Read, Memory, Write}

abbrev pub number_of : FileFault → ℕ
number_of Truncated = 60
number_of Magic = 61
number_of Version = 62
number_of LevelOutOfRange = 63
number_of Count = 64
number_of EntryForm = 65
number_of Digest = 66
number_of Trailing = 67
number_of Read = 68
number_of Memory = 69
number_of Write = 70

-- what is told of each
abbrev pub reason_of : FileFault → Words
reason_of fault = alone (number_of fault)
