use Rattle.std.proofs.KnownBytes.{Appends-nil}
use Rattle.awari_boards.proofs.PlyLines.{lines_next}
use Rattle.awari_boards.proofs.plies.print_plies.Goals as goal

pub loop-ply-init : goal.loop-ply-init
loop-ply-init g c = Appends-nil _

pub loop-ply-preserved : goal.loop-ply-preserved
loop-ply-preserved g c = lines_next c.args.json c.args.plies.now c.loop-ply.ply-index c.ply-item.result _ _ _ c.loop-ply-test.true c.ply-item.is c.loop-ply.invariant (c.print_ply.ensures c.if-not-print_ply.false)
