use Rattle.std.proofs.Common.{subst}
use Rattle.awari_block.specs.Part.{AreFresh}
use Rattle.awari_block.proofs.Freshness.{fresh_of_block}
use Rattle.awari_block.proofs.boards.Boards.fresh.Goals as goal

pub returns-clause-fresh : goal.returns-clause-fresh
returns-clause-fresh g c = subst AreFresh c.self.view_is (fresh_of_block c.self.inside.stake c.self.inside.start c.self.inside.cells.items _ c.self.invariant.block)
