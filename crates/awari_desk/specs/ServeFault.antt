-- Why a service ends early.
use Rattle.std.specs.Prelude.{◌≡◌, ◌<◌, ℕ, List, length, Option, IfSome, Result, Err, OnOk, OnErr}
use Rattle.awari_faults.specs.Refusals.{Words, alone}
use Rattle.awari_streams.specs.Counted.{Grew}
use Rattle.awari_desk.specs.declared.faults.ServeFault.{ServeFault}
use Rattle.awari_desk.specs.declared.faults.ServeFault.TheVariants.{Read, TooLong, Write}

-- the number of each fault
abbrev pub number_of : ServeFault → ℕ
number_of Read = 90
number_of TooLong = 91
number_of Write = 92

-- what is told of each
abbrev pub reason_of : ServeFault → Words
reason_of fault = alone (number_of fault)

-- It is refused if the writer gave a fault or took no byte, as 92, and only then.
pub record TellsWriter {X : Type 0} (result : Result X ServeFault) (old new : ℕ) : Type 0 where
  pub clean : OnOk result (new ≡ old)
  pub fault : OnErr result ((result ≡ Err Write) × Grew old new)

-- It is 90 only if the input gave a fault, 91 only if more than the most bytes came, and 92 only if the writer gave a fault or took
-- no byte.
pub record TellsEnd {X : Type 0} (result : Result X ServeFault) (most : ℕ) (input : Option (List ℕ)) (read reads written writes : ℕ) : Type 0 where
  pub read_fault : result ≡ Err Read → Grew read reads
  pub too_long : result ≡ Err TooLong → IfSome input (λ bytes. most < length bytes)
  pub write_fault : result ≡ Err Write → Grew written writes
