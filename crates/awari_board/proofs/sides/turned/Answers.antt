use Rattle.std.proofs.Common.{arith, length, ◌≡◌}
use Rattle.awari_board.proofs.Moving.{turned-items}
use Rattle.awari_board.proofs.sides.turned.Goals as goal

pub returns : goal.returns
returns c = let long : length c.args.pits.now ≡ 12 = omega arith in turned-items c.args.pits.now long
