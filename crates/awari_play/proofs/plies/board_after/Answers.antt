use Rattle.std.proofs.Common.{arith}
use Rattle.awari_play.proofs.PlyLaws.{ply_stands}
use Rattle.awari_play.proofs.plies.board_after.Goals as goal

pub returns : goal.returns
returns c = ply_stands c.args.board.now c.args.plies.now c.args.count _ (omega (arith, c.if-count-eq0.false)) c.requires
