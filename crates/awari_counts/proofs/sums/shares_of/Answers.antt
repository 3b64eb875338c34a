use Rattle.std.proofs.Common.{arith, refl}
use Rattle.awari_counts.proofs.LaneLaws.{front-sum, part-lane, part-sum}
use Rattle.awari_counts.proofs.sums.shares_of.Goals as goal

pub add_up-requires : goal.add_up-requires
add_up-requires c = part-lane c.args.values.now 129 127 (omega (arith, c.requires.long)) c.requires.few

pub add_up-requires-2 : goal.add_up-requires-2
add_up-requires-2 c = part-lane c.args.values.now 0 128 (omega (arith, c.requires.long)) c.requires.few

pub returns : goal.returns
returns c = record {
  won = part-sum c.args.values.now 129 127 c.add_up.result c.add_up.ensures;
  even = refl;
  lost = front-sum c.args.values.now 128 c.add_up-2.result c.add_up-2.ensures;
}
