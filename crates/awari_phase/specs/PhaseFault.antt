-- Why a round is refused: what is told of the faults, and which is told.
use Rattle.std.specs.Prelude.{◌≡◌, ℕ, ℤ, ◌<◌, ◌≤◌, List, [], ◌∷◌, All, Some, None, codes, slice_index_or}
use Rattle.awari_faults.specs.Refusals.{Words, alone, with_number}
use Rattle.awari_owner.specs.OwnerFault.{reason_of as owner_reason_of}
use Rattle.awari_owner.specs.declared.faults.OwnerFault.{OwnerFault}
use Rattle.awari_owner.specs.declared.faults.OwnerFault.TheVariants as owner_fault
use Rattle.awari_table.specs.declared.TheConstants.{HIGHEST_LEVEL}
use Rattle.awari_phase.specs.declared.owners.Owner.{Owner}
use Rattle.awari_phase.specs.declared.faults.PhaseFault.{PhaseFault}
use Rattle.awari_phase.specs.declared.faults.PhaseFault.TheVariants.{NotStarted, Memory, BadNote, Stopped}
use Rattle.awari_phase.specs.Owners.{AllGrown, AreTogether}
use Rattle.awari_phase.specs.Stops.{HaveWorked}

-- what is told of each but for the fault of an owner: its number, and the owner
abbrev pub reason_of : PhaseFault → Words
reason_of NotStarted = alone 40
reason_of Memory = alone 41
reason_of (BadNote owner fault) = with_number 42 (codes "owner") owner
reason_of Stopped = alone 43

abbrev pub number_of : PhaseFault → ℕ
number_of fault = (reason_of fault).number

-- what is told of the fault of an owner, and of both
abbrev pub inside_of : PhaseFault → List Words
inside_of (BadNote owner fault) = owner_reason_of fault ∷ []
inside_of fault = []

abbrev pub refusal_of : PhaseFault → List Words
refusal_of fault = reason_of fault ∷ inside_of fault

-- how a round tells the fault of an owner
abbrev pub fault_of : ℕ → OwnerFault → PhaseFault
fault_of owner owner_fault.Memory = Memory
fault_of owner owner_fault.Stranger = BadNote owner owner_fault.Stranger
fault_of owner owner_fault.Doubled = BadNote owner owner_fault.Doubled
fault_of owner owner_fault.Far = BadNote owner owner_fault.Far

-- no owner had a fault
abbrev pub AreWell : List Owner → Type 0
AreWell owners = All (λ (o : Owner). o.fault ≡ None) owners

-- the fault of the first owner that had one
pub record IsFirstFault (owners : List Owner) (fault : PhaseFault) : Type 0 where
  pub place : ℕ
  pub owner : Owner
  pub of_owner : (d : Owner) → slice_index_or owners place d ≡ owner
  pub had : OwnerFault
  pub came : owner.fault ≡ Some had
  pub told : fault ≡ fault_of owner.ends.owner had
  pub before : (i : ℕ) (d : Owner) → i < place → (slice_index_or owners i d).fault ≡ None

-- a thread was wanting, or memory
abbrev pub IsWant : PhaseFault → Type 0
IsWant NotStarted = Unit {0}
IsWant Memory = Unit {0}
IsWant (BadNote owner fault) = ⊥
IsWant Stopped = ⊥

-- this holds of the fault if these owners of a level were sound together
abbrev pub IfTogether : List Owner → (PhaseFault → Type 0) → PhaseFault → Type 0
IfTogether owners Holds fault = (value : List ℕ → ℤ) (n : ℕ) → n ≤ HIGHEST_LEVEL → AreTogether value n owners → Holds fault

-- the level was not wanted any more, for which this holds
abbrev pub IsStop : Type 0 → PhaseFault → Type 0
IsStop stops fault = (fault ≡ Stopped) × stops

-- the owners came back from their work, each up to its fault if it had one, and this is the fault of the first that had one
abbrev pub IsOfOwner : List Owner → PhaseFault → Type 0
IsOfOwner owners fault = (back : List Owner) × HaveWorked owners back × IsFirstFault back fault

-- why a round of these owners is refused: a thread was wanting, or an owner had a fault
abbrev pub IsRefusal : List Owner → PhaseFault → Type 0
IsRefusal owners NotStarted = Unit {0}
IsRefusal owners Memory = IsOfOwner owners Memory
IsRefusal owners (BadNote owner fault) = IsOfOwner owners (BadNote owner fault)
IsRefusal owners Stopped = ⊥

-- Why rounds that began with these owners are refused: they had come to some owners, and the round of those was refused so.
abbrev pub IsPhaseRefusal : List Owner → PhaseFault → Type 0
IsPhaseRefusal owners fault = (before : List Owner) × AllGrown owners before × IsRefusal before fault
