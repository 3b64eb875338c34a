use Rattle.std.proofs.Common.{arith, rules}
use Rattle.std.proofs.lemmas.List.{get_or_default}
use Rattle.awari_shown.specs.Moves.{move_lines}
use Rattle.awari_shown.proofs.MoveLines.{move_lines-more}
use Rattle.awari_shown.proofs.moves.lines_of.Goals as goal

pub loop-weighed-init : goal.loop-weighed-init
unfolding move_lines
loop-weighed-init c = record { room = search rules; spelled = search rules }

pub loop-weighed-preserved : goal.loop-weighed-preserved
loop-weighed-preserved c =
    let inside = c.loop-weighed-test.true in record {
      room = omega arith;
      spelled = move_lines-more c.args.plan c.args.moves.now c.loop-weighed.weighed-index _ _ _ inside (get_or_default _ _ _ _ inside) c.loop-weighed.invariant.spelled c.push_move.ensures.items;
    }
