use Rattle.std.proofs.Common.{arith}
use Rattle.awari_counts.proofs.sums.sums_of.Goals as goal

pub overflow_mul-lane : goal.overflow_mul-lane
overflow_mul-lane c = omega (arith, (c.requires.each c.loop-place.place c.loop-place-test.true).inside 0 c.requires.some)

pub add_up-requires : goal.add_up-requires
add_up-requires c = c.requires.each c.loop-place.place c.loop-place-test.true
