use Rattle.std.proofs.Common.{ap}
use Rattle.awari_block.specs.Part.{Part}
use Rattle.awari_block.proofs.boards.Boards.block.Goals as goal

pub returns-clause-start : goal.returns-clause-start
returns-clause-start g c = ap (λ (p : Part). p.start) c.self.view_is
