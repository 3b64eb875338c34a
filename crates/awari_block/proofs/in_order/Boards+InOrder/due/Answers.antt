use Rattle.std.proofs.Common.{◌<◌, length, subst, rules}
use Rattle.std.specs.BinaryHeap.{heap_items}
use Rattle.awari_block.specs.Part.{Part, part_of}
use Rattle.awari_block.specs.FreshHeap.{due_in, fresh_of}
use Rattle.awari_block.proofs.FreshHeap.{due_of_first, first_of_top, top_at, IsDueNow}
use Rattle.awari_block.proofs.Freshness.{fresh_of_block}
use Rattle.awari_block.proofs.in_order.Boards+InOrder.due.Goals as goal

-- the top one is due
due : (c : goal.In_ok-dist) → IsDueNow c.args.self.now (due_in c.in_ok-dist.field-0.now).0
due c =
    let items = heap_items c.self.inside.fresh.heap in
    let top = c.in_ok-dist.field-0.now in
    let some : 0 < length items = search rules in
    subst (λ (p : Part). IsDueNow p (due_in top).0) c.self.view_is
    (due_of_first (part_of c.self.inside.stake c.self.inside.start c.self.inside.cells.items (fresh_of c.self.inside.fresh)) (due_in top) (top_at top items some c.in_ok-dist.ensures.lookup)
    (first_of_top top items (c.in_ok-dist.ensures.greatest c.self.invariant.right.ordered))
    (fresh_of_block c.self.inside.stake c.self.inside.start c.self.inside.cells.items _ c.self.invariant.block))

pub returns-clause-least : goal.returns-clause-least
returns-clause-least c = (due c).least

pub returns-clause-timely : goal.returns-clause-timely
returns-clause-timely c = (due c).timely

pub returns-clause-settled : goal.returns-clause-settled
returns-clause-settled c = (due c).settled
