use Rattle.std.proofs.Common.{◌+◌}
use Rattle.awari_play.specs.Plies.{boards_in}
use Rattle.awari_play.proofs.PlyLaws.{IsFresh}
use Rattle.awari_play.proofs.plies.first_repeat.Given as goal

abbrev pub invariant-loop-index : goal.invariant-loop-index
invariant-loop-index l = IsFresh (boards_in l.board l.plies) (l.index + 1)
