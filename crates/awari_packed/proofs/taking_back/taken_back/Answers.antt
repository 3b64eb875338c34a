use Rattle.std.proofs.Common.{arith}
use Rattle.awari_packed.proofs.Digits.{IsPacking-from_IsPackOf}
use Rattle.awari_packed.proofs.TakingBack.{at, taken_back_to}
use Rattle.awari_packed.proofs.taking_back.taken_back.Goals as goal

pub overflow_add-result-2 : goal.overflow_add-result-2
unfolding at
overflow_add-result-2 c =
    let packing = IsPacking-from_IsPackOf (taken_back_to c.args.bits c.args.origin c.args.last c.requires.packing c.requires.from c.requires.own c.requires.held) in
    omega (arith, packing.top)

pub returns : goal.returns
unfolding at
returns c = taken_back_to c.args.bits c.args.origin c.args.last c.requires.packing c.requires.from c.requires.own c.requires.held
