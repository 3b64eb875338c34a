use Rattle.std.proofs.Common.{rules}
use Rattle.awari_packed.proofs.boards.PackedBoard.captures_nothing.Goals as goal

pub returns : goal.returns
returns c = search rules
