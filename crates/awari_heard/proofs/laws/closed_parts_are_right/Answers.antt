use Rattle.awari_heard.proofs.Levels.{parts_right}
use Rattle.awari_heard.proofs.laws.closed_parts_are_right.Goals as goal

pub returns : goal.returns
returns c value level parts whole closed heard = parts_right level parts whole value closed heard
