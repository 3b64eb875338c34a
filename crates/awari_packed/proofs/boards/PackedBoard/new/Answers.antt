use Rattle.awari_packed.proofs.Digits.{pits-from_IsPackOf, IsPacking-from_IsPackOf}
use Rattle.awari_packed.proofs.boards.PackedBoard.new.Goals as goal

pub invariant_of-result : goal.invariant_of-result
invariant_of-result c = IsPacking-from_IsPackOf c.packed_to.ensures

pub returns : goal.returns
returns c = pits-from_IsPackOf c.packed_to.ensures
