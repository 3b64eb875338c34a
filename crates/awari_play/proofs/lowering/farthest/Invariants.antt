use Rattle.awari_table.specs.Images.{table_of}
use Rattle.awari_play.specs.Planning.{with_top}
use Rattle.awari_play.proofs.Lowered.{IsFarthestOf}
use Rattle.awari_play.proofs.lowering.farthest.Given as goal

abbrev pub invariant-loop-pit : goal.invariant-loop-pit
invariant-loop-pit l = IsFarthestOf (table_of (with_top l.shelf l.entries)) l.board l.pit l.farthest
