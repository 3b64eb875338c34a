use Rattle.std.proofs.Common.{rules}
use Rattle.awari_packed.proofs.boards.PackedBoard.unrank.Goals as goal

pub returns-clause-rank : goal.returns-clause-rank
returns-clause-rank c = search rules
