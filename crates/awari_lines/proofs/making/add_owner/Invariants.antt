use Rattle.awari_lines.proofs.Growing.{ConnectedTo}
use Rattle.awari_lines.proofs.making.add_owner.Given as goal

abbrev pub invariant-loop-other : goal.invariant-loop-other
invariant-loop-other g l = ConnectedTo l.fn.room l.fn.all.items l.other-items l.pairs.items l.other-index
