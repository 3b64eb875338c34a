use Rattle.std.proofs.Common.{refl}
use Rattle.awari_packed.specs.Packed.{packed, unpacked, pits_of}
use Rattle.awari_packed.proofs.laws.worked_examples.Goals as goal

pub returns-clause-last_pit : goal.returns-clause-last_pit
unfolding packed
returns-clause-last_pit c = refl

pub returns-clause-pit_before : goal.returns-clause-pit_before
unfolding packed
returns-clause-pit_before c = refl

pub returns-clause-greatest : goal.returns-clause-greatest
unfolding packed
returns-clause-greatest c = refl

pub returns-clause-three : goal.returns-clause-three
unfolding packed
returns-clause-three c = refl

pub returns-clause-back : goal.returns-clause-back
unfolding unpacked pits_of
returns-clause-back c = refl
