use Rattle.std.proofs.Common.{subst}
use Rattle.awari_block.specs.Part.{AreFresh}
use Rattle.awari_block.proofs.Freshness.{fresh_of_block}
use Rattle.awari_block.proofs.boards.Boards.wave.Goals as goal

pub returns-clause-from : goal.returns-clause-from
returns-clause-from g c k d h =
    let fresh = subst AreFresh c.self.view_is (fresh_of_block c.self.inside.stake c.self.inside.start c.self.inside.cells.items _ c.self.invariant.block) in
    (fresh.boards k d h).4
