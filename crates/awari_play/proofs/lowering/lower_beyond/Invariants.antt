use Rattle.awari_play.proofs.Lowerings.{IsLowering}
use Rattle.awari_play.proofs.lowering.lower_beyond.Given as goal

abbrev pub invariant-loop-rank : goal.invariant-loop-rank
invariant-loop-rank l = IsLowering l.shelf l.fn.entries.items l.entries.items l.near l.rank l.fell
