-- The fresh boards of a block in a heap, as owners keep them.
use Rattle.std.specs.Prelude.{◌≤◌, List, length, map}
use Rattle.std.specs.BinaryHeap.{IsHeap, heap_capacity, heap_items}
use Rattle.std.specs.Ordering.{nat_cmp, ordering_then}
use Rattle.std.specs.declared.cmp.Ordering.{Ordering}
use Rattle.std.specs.declared.cmp.Reverse.{Reverse}
use Rattle.awari_block.specs.Blocks.{Due, due_dist, due_rank}
use Rattle.awari_block.specs.declared.cells.Cell.{Cell}
use Rattle.awari_block.specs.declared.in_order.InOrder.{InOrder}

-- the order: by distance, and then by rank
abbrev pub due_cmp : Due → Due → Ordering
due_cmp f g = ordering_then (nat_cmp (due_dist f) (due_dist g)) (nat_cmp (due_rank f) (due_rank g))

abbrev pub due_in : Reverse Due → Due
due_in r = r.0

abbrev pub fresh_of : InOrder → List Due
fresh_of fresh = map due_in (heap_items fresh.heap)

-- The heap has room for each board of the block, and its first fresh board is on top.
pub record IsInOrder (cells : List Cell) (fresh : InOrder) : Type 0 where
  pub room : length cells ≤ heap_capacity fresh.heap
  pub ordered : IsHeap (λ a b. due_cmp (due_in b) (due_in a)) (heap_items fresh.heap)
