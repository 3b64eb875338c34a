use Rattle.std.proofs.Common.{subst}
use Rattle.awari_block.specs.Boards.{stake_of}
use Rattle.awari_block.specs.Cells.{Fits}
use Rattle.awari_block.specs.Part.{Part}
use Rattle.awari_owner.proofs.parts.Part.settled.Goals as goal

pub returns-clause-ranged : goal.returns-clause-ranged
returns-clause-ranged c =
    let fit : Fits (stake_of c.args.self.now) c.cell.result = subst (λ (o : Part). Fits (stake_of o) c.cell.result) c.self.view_is c.cell.ensures.fits in
    c.settled.ensures.ranged (stake_of c.args.self.now) fit
