use Rattle.awari_heard.specs.Filling.{PushesBlock}
use Rattle.awari_heard.proofs.entries.push_block.Given as goal

abbrev pub invariant-loop-k : goal.invariant-loop-k
invariant-loop-k l = PushesBlock l.cells l.fn.entries l.entries l.k
