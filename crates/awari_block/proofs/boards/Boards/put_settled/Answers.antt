use Rattle.std.proofs.Common.{ap}
use Rattle.awari_block.specs.Part.{Part, stored_at}
use Rattle.awari_block.proofs.Putting.{kept_boards, kept_seen}
use Rattle.awari_block.proofs.boards.Boards.put_settled.Goals as goal

pub invariant_of-self : goal.invariant_of-self
invariant_of-self g c =
    kept_boards g.F.FreshSet.dues g.F.FreshSet.right c.self.inside c.self.invariant c.args.self.now c.self.view_is c.args.rank (stored_at c.args.self.now c.args.rank) c.args.cell c.requires.can (ap (λ (o : Part). stored_at o c.args.rank) c.self.view_is) c.depend_on_their_cells.ensures (λ _. c.requires.settled)

pub returns-clause-settles : goal.returns-clause-settles
returns-clause-settles g c =
    kept_seen g.F.FreshSet.dues g.F.FreshSet.right c.self.inside c.self.invariant c.args.self.now c.self.view_is c.args.rank (stored_at c.args.self.now c.args.rank) c.args.cell c.requires.can (ap (λ (o : Part). stored_at o c.args.rank) c.self.view_is) c.depend_on_their_cells.ensures (λ _. c.requires.settled)
