use Rattle.awari_block.specs.declared.awaited.TheConstants.{NO_GAIN}
use Rattle.awari_block.proofs.Awaiting.{AreFilled}
use Rattle.awari_block.proofs.awaited.awaited_gains.Given as goal

abbrev pub invariant-loop-index : goal.invariant-loop-index
invariant-loop-index l = AreFilled l.level NO_GAIN l.cells l.awaits.items l.index
