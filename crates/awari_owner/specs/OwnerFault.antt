-- Why a note is refused.
use Rattle.std.specs.Prelude.{◌≡◌, ℕ, ◌-◌, ◌^◌, true, false}
use Rattle.awari_faults.specs.Refusals.{Words, alone}
use Rattle.awari_block.specs.Tally.{has_pit}
use Rattle.awari_block.specs.Part.{Part, IsExpected, stored_at}
use Rattle.awari_block.specs.declared.notes.Note.{Note}
use Rattle.awari_owner.specs.declared.faults.OwnerFault.{OwnerFault}
use Rattle.awari_owner.specs.declared.faults.OwnerFault.TheVariants.{Stranger, Doubled, Far, Memory}

-- the number of each fault
abbrev pub number_of : OwnerFault → ℕ
number_of Stranger = 30
number_of Doubled = 31
number_of Far = 32
number_of Memory = 33

-- what is told of each
abbrev pub reason_of : OwnerFault → Words
reason_of fault = alone (number_of fault)

-- The fault of a note. At most one is due, since each is tested only where those before it are not.
abbrev pub IsFaultOf : Part → Note → OwnerFault → Type 0
IsFaultOf part note Stranger = IsExpected part note → ⊥
IsFaultOf part note Doubled = IsExpected part note × (has_pit (stored_at part note.target).left note.pit ≡ false)
IsFaultOf part note Far = IsExpected part note × (has_pit (stored_at part note.target).left note.pit ≡ true) × (note.dist ≡ 2 ^ 32 - 1)
IsFaultOf part note Memory = ⊥
