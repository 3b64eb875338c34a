use Rattle.std.proofs.Common.{arith}
use Rattle.awari_packed.proofs.Digits.{IsPacking-from_IsPackOf}
use Rattle.awari_packed.proofs.Emptying.{sow_is}
use Rattle.awari_packed.proofs.words.sow.Goals as goal

pub overflow_add-result : goal.overflow_add-result
overflow_add-result c =
    let top = IsPacking-from_IsPackOf (sow_is c.args.bits c.args.origin c.args.stones _ _ c.requires.packing (omega arith) c.requires.stones c.without.ensures c.scattered.ensures) in
    omega (arith, top.top)

pub returns : goal.returns
returns c = sow_is c.args.bits c.args.origin c.args.stones _ _ c.requires.packing (omega arith) c.requires.stones c.without.ensures c.scattered.ensures
