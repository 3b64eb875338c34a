use Rattle.std.proofs.Common.{refl, subst}
use Rattle.awari_block.specs.Boards.{GivesFresh}
use Rattle.awari_block.specs.Part.{AreFresh, Part, part_of}
use Rattle.awari_block.proofs.Freshness.{fresh_of_block}
use Rattle.awari_block.proofs.Giving.{block_less, given_count}
use Rattle.awari_block.proofs.boards.Boards.give.Goals as goal

pub returns-in_err-count-clause-fresh : goal.returns-in_err-count-clause-fresh
returns-in_err-count-clause-fresh g c = subst AreFresh c.self.view_is (fresh_of_block c.self.inside.stake c.self.inside.start c.self.inside.cells.items _ c.self.invariant.block)

pub invariant_of-self-2 : goal.invariant_of-self-2
invariant_of-self-2 g c =
    let away = c.in_ok-count.ensures.given.3 c.self.inside.stake c.self.inside.start c.self.inside.cells.items refl c.self.invariant.block c.self.invariant.right in
    let given = c.in_ok-count.ensures.given in
    record {
      low = c.self.invariant.low;
      opened = c.self.invariant.opened;
      inward = c.self.invariant.inward;
      fits = c.self.invariant.fits;
      within = c.self.invariant.within;
      right = away.1;
      block = block_less c.self.inside.stake c.self.inside.start c.self.inside.cells.items _ _ _ away.0.moved c.self.invariant.block;
      awaited = c.self.invariant.awaited;
      count = given_count c.self.inside.stake.wave given.0 _ _ c.self.inside.spread c.in_ok-count.count c.self.inside.cells.items given.2 away.0.moved c.self.invariant.count;
    }

pub returns-clause-given : goal.returns-clause-given
returns-clause-given g c =
    let away = c.in_ok-count.ensures.given.3 c.self.inside.stake c.self.inside.start c.self.inside.cells.items refl c.self.invariant.block c.self.invariant.right in
    (c.in_ok-count.ensures.given.0, c.in_ok-count.ensures.given.1, subst (λ (o : Part). GivesFresh c.args.kind o (part_of c.self.inside.stake c.self.inside.start c.self.inside.cells.items (g.F.FreshSet.dues c.give.new.self)) c.in_ok-count.ensures.given.0) c.self.view_is away.0)

pub returns-clause-fresh : goal.returns-clause-fresh
returns-clause-fresh g c = subst AreFresh c.self.view_is (fresh_of_block c.self.inside.stake c.self.inside.start c.self.inside.cells.items _ c.self.invariant.block)
