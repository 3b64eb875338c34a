use Rattle.awari_table.specs.Images.{table_of}
use Rattle.awari_play.specs.Planning.{with_top}
use Rattle.awari_play.proofs.Lowered.{IsNearestOf}
use Rattle.awari_play.proofs.lowering.nearest.Given as goal

abbrev pub invariant-loop-pit : goal.invariant-loop-pit
invariant-loop-pit l = IsNearestOf (table_of (with_top l.shelf l.entries)) l.board l.pit l.nearest
