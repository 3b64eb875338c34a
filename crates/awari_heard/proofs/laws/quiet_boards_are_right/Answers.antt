use Rattle.awari_heard.proofs.RightCells.{quiet_right}
use Rattle.awari_heard.proofs.laws.quiet_boards_are_right.Goals as goal

pub returns : goal.returns
returns c value cell p notes heard = quiet_right value cell p notes heard
