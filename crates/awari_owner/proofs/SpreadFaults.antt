-- Why a board was not spread.
use Rattle.std.proofs.Common.{ℕ, ◌<◌, ◌⊎◌, inl, inr, Some}
use Rattle.awari_block.specs.Part.{Part, HasFarthest, IsLeastDue}
use Rattle.awari_owner.specs.Sound.{IsSpreadFault}
use Rattle.awari_owner.specs.declared.faults.OwnerFault.{OwnerFault}
use Rattle.awari_owner.specs.declared.faults.OwnerFault.TheVariants.{Doubled, Far, Memory, Stranger}

-- what a fault of a spread tells
pub fault_due : (part : Part) (owners : ℕ) (fault : OwnerFault) → IsSpreadFault part owners fault → IsLeastDue part (Some part.wave) × (HasFarthest part ⊎ (1 < owners))
fault_due part owners Far far = (far.0, inl far.2)
fault_due part owners Memory memory = (memory.0, inr memory.2)
fault_due part owners Stranger none = absurd none
fault_due part owners Doubled none = absurd none
