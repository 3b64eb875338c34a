use Rattle.std.proofs.Common.{◌-◌, length-set, arith}
use Rattle.std.proofs.lemmas.List.Sorted.{IsPermutation-map}
use Rattle.awari_block.specs.FreshHeap.{due_in}
use Rattle.awari_block.proofs.in_order.InOrderFreshSet.insert.Goals as goal

pub returns-clause-joins : goal.returns-clause-joins
returns-clause-joins c = IsPermutation-map due_in _ _ c.in_ok-push.ensures.permutation

pub returns-clause-right : goal.returns-clause-right
returns-clause-right c = λ start cells can. record {
  room = let room = can.right.room in let kept = c.push.ensures.capacity in let size = length-set cells (c.args.rank - start) c.args.cell in omega (arith, room, kept, size);
  ordered = c.in_ok-push.ensures.heap_order can.right.ordered;
}
