-- The numbers of the faults, and what is told of them.
use Rattle.std.specs.Prelude.{◌≡◌, ℕ, List, [], ◌∷◌}
use Rattle.awari_faults.specs.Refusals.{Words, alone}
use Rattle.awari_phase.specs.PhaseFault.{refusal_of as phase_refusal_of}
use Rattle.awari_phase.specs.declared.faults.PhaseFault.TheVariants as phase_fault
use Rattle.awari_build.specs.declared.faults.BuildFault.{BuildFault}
use Rattle.awari_build.specs.declared.faults.BuildFault.TheVariants.{Owners, Pace, TooHigh, Memory, Phase}

abbrev pub number_of : BuildFault → ℕ
number_of Owners = 50
number_of Pace = 55
number_of TooHigh = 51
number_of Memory = 53
number_of (Phase fault) = 52

-- what is told of the faults inside it, and of all
abbrev pub inside_of : BuildFault → List Words
inside_of (Phase fault) = phase_refusal_of fault
inside_of fault = []

abbrev pub refusal_of : BuildFault → List Words
refusal_of fault = alone (number_of fault) ∷ inside_of fault

-- the level was not wanted any more, for which this holds
abbrev pub IsStopped : Type 0 → BuildFault → Type 0
IsStopped stops fault = (fault ≡ Phase phase_fault.Stopped) × stops

-- want of memory, or of a thread
abbrev pub IsOfPhase : BuildFault → Type 0
IsOfPhase Memory = Unit {0}
IsOfPhase (Phase fault) = fault ≡ phase_fault.NotStarted
IsOfPhase Owners = ⊥
IsOfPhase Pace = ⊥
IsOfPhase TooHigh = ⊥
