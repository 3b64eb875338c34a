use Rattle.awari_unmove.proofs.Predecessors.{IsPredecessors-from_both}
use Rattle.awari_unmove.proofs.packed_unmoves.PackedUnmoves.of.Goals as goal

pub returns-clause-predecessors : goal.returns-clause-predecessors
returns-clause-predecessors c = IsPredecessors-from_both _ _ _ c.own_of-own.ensures.predecessors c.far_of-far.ensures.predecessors
