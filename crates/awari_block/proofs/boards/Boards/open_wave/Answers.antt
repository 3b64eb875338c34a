use Rattle.std.proofs.Common.{◌≤◌, All, sym, subst}
use Rattle.awari_block.specs.Blocks.{due_dist, IsBlock}
use Rattle.awari_block.specs.Part.{Part}
use Rattle.awari_block.proofs.Freshness.{fresh_of_block, later_block}
use Rattle.awari_block.proofs.boards.Boards.open_wave.Given.{Over}
use Rattle.awari_block.proofs.boards.Boards.open_wave.Goals as goal

block : (g : Over) (c : goal.After-self-1 g) → IsBlock (record c.self.inside.stake { wave = c.args.dist }) c.self.inside.start c.self.inside.cells.items (g.F.FreshSet.dues c.self.inside.fresh)
block g c =
    later_block c.self.inside.stake c.self.inside.start c.self.inside.cells.items _ c.args.dist (subst (λ (p : Part). All (λ f. c.args.dist ≤ due_dist f) p.fresh) (sym c.self.view_is) c.requires.nearest) c.self.invariant.block

pub invariant_of-self : goal.invariant_of-self
invariant_of-self g c = record {
  low = c.self.invariant.low;
  opened = c.self.invariant.opened;
  inward = c.self.invariant.inward;
  fits = c.self.invariant.fits;
  within = c.self.invariant.within;
  right = c.self.invariant.right;
  block = block g c;
  awaited = c.self.invariant.awaited;
  count = c.self.invariant.count;
}

pub returns-clause-fresh : goal.returns-clause-fresh
returns-clause-fresh g c = fresh_of_block (record c.self.inside.stake { wave = c.args.dist }) c.self.inside.start c.self.inside.cells.items _ (block g c)
