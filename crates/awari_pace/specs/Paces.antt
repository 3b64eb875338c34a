-- At which paces a level is built.
use Rattle.std.specs.Prelude.{◌≤◌}
use Rattle.awari_pace.specs.declared.paces.Pace.{Pace}

-- there are 1 to 16 owners
abbrev pub HasOwners : Pace → Type 0
HasOwners pace = (1 ≤ pace.owners) × (pace.owners ≤ 16)

-- a ring has room for 1 to 256 batches, and a round has 1 to 1000 sweeps
abbrev pub IsPaced : Pace → Type 0
IsPaced pace = (1 ≤ pace.room) × (pace.room ≤ 256) × (1 ≤ pace.sweeps) × (pace.sweeps ≤ 1000)
