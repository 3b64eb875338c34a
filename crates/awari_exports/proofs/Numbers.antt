-- The numbers of faults.
use Rattle.std.proofs.Common.{◌≡◌, arith}
use Rattle.awari_file.specs.FileFault.{number_of}
use Rattle.awari_file.specs.declared.faults.FileFault.{FileFault}
use Rattle.awari_file.specs.declared.faults.FileFault.TheVariants.{Truncated, Magic, Version, LevelOutOfRange, Count, EntryForm, Digest, Trailing, Read, Memory, Write}

-- 0 is the number of none
pub number_is_some : (fault : FileFault) → number_of fault ≡ 0 → ⊥
number_is_some Truncated e = absurd (omega (arith, e))
number_is_some Magic e = absurd (omega (arith, e))
number_is_some Version e = absurd (omega (arith, e))
number_is_some LevelOutOfRange e = absurd (omega (arith, e))
number_is_some Count e = absurd (omega (arith, e))
number_is_some EntryForm e = absurd (omega (arith, e))
number_is_some Digest e = absurd (omega (arith, e))
number_is_some Trailing e = absurd (omega (arith, e))
number_is_some Read e = absurd (omega (arith, e))
number_is_some Memory e = absurd (omega (arith, e))
number_is_some Write e = absurd (omega (arith, e))
