use Rattle.awari_play.specs.Plies.{boards_in}
use Rattle.awari_play.proofs.PlyLaws.{IsNew}
use Rattle.awari_play.proofs.plies.stood.Given as goal

abbrev pub invariant-loop-first : goal.invariant-loop-first
invariant-loop-first l = IsNew (boards_in l.board l.plies) l.first l.again
