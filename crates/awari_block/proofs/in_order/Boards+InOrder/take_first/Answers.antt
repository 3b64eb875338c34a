use Rattle.std.proofs.Common.{◌∷◌, List, Some, map, refl, subst, sym, arith}
use Rattle.std.proofs.lemmas.List.Sorted.{IsPermutation-map, IsPermutation-sym, length_permutation}
use Rattle.std.specs.BinaryHeap.{heap_items}
use Rattle.std.specs.List.Sorted.{IsPermutation}
use Rattle.awari_block.specs.Blocks.{Due, due_rank, IsBlock}
use Rattle.awari_block.specs.Boards.{TakesFirst}
use Rattle.awari_block.specs.FreshHeap.{due_in, fresh_of}
use Rattle.awari_block.specs.Part.{Part, IsLeastDue, part_of}
use Rattle.awari_block.proofs.BlockLemmas.{first_due, popped}
use Rattle.awari_block.proofs.FreshHeap.{first_least, first_moved, first_of_top, IsFirstOf}
use Rattle.awari_block.proofs.Freshness.{fresh_of_block}
use Rattle.awari_block.proofs.in_order.Boards+InOrder.take_first.Goals as goal

abbrev rest : (c : goal.After-self-1) → List Due
rest c = map due_in (heap_items c.pop.new.self)

moved : (c : goal.After-self-1) → IsPermutation (fresh_of c.self.inside.fresh) (due_in c.in-Some.field-0 ∷ rest c)
moved c = IsPermutation-map due_in _ _ c.in-Some.ensures.permutation

back : (c : goal.After-self-1) → IsPermutation (due_in c.in-Some.field-0 ∷ rest c) (fresh_of c.self.inside.fresh)
back c = IsPermutation-sym _ _ (moved c)

first : (c : goal.After-self-1) → IsFirstOf (due_in c.in-Some.field-0) (fresh_of c.self.inside.fresh)
first c = first_of_top c.in-Some.field-0 (heap_items c.self.inside.fresh.heap) (c.in-Some.ensures.heap_order c.self.invariant.right.ordered).1

block : (c : goal.After-self-1) → IsBlock c.self.inside.stake c.self.inside.start c.self.inside.cells.items (rest c)
block c = popped c.self.inside.stake c.self.inside.start c.self.inside.cells.items (fresh_of c.self.inside.fresh) (rest c) (due_in c.in-Some.field-0) c.self.invariant.block (back c)

pub invariant_of-self : goal.invariant_of-self
invariant_of-self c = record {
  low = c.self.invariant.low;
  opened = c.self.invariant.opened;
  inward = c.self.invariant.inward;
  fits = c.self.invariant.fits;
  within = c.self.invariant.within;
  right = record {
    room = let room = c.self.invariant.right.room in let kept = c.pop.ensures.capacity in omega (arith, room, kept);
    ordered = (c.in-Some.ensures.heap_order c.self.invariant.right.ordered).0;
  };
  block = block c;
  awaited = c.self.invariant.awaited;
  count = let count = c.self.invariant.count in let one = length_permutation _ _ (back c) in omega (arith, count, one);
}

pub returns-clause-first : goal.returns-clause-first
returns-clause-first c =
    let fresh = fresh_of c.self.inside.fresh in
    let top = due_in c.in-Some.field-0 in
    let wave = c.self.inside.stake.wave in
    let due = subst (λ (o : Part). IsLeastDue o (Some o.wave)) (sym c.self.view_is) c.requires.due in
    let takes : TakesFirst (part_of c.self.inside.stake c.self.inside.start c.self.inside.cells.items fresh) (part_of c.self.inside.stake c.self.inside.start c.self.inside.cells.items (rest c)) (due_rank top) = record {
      rest = refl;
      moved = first_moved wave fresh (rest c) top (moved c) (first c) due.0 due.1;
      first = first_least wave fresh (rest c) top (moved c) (first c) due.0 due.1;
      sound = c.self.invariant.block;
    } in
    subst (λ (o : Part). TakesFirst o (part_of c.self.inside.stake c.self.inside.start c.self.inside.cells.items (rest c)) (due_rank top)) c.self.view_is takes

pub returns-clause-held : goal.returns-clause-held
returns-clause-held c =
    let board = first_due c.self.inside.stake c.self.inside.start c.self.inside.cells.items (fresh_of c.self.inside.fresh) (rest c) (due_in c.in-Some.field-0) c.self.invariant.block (back c) in
    (board.0, board.1)

pub returns-clause-fresh : goal.returns-clause-fresh
returns-clause-fresh c = fresh_of_block c.self.inside.stake c.self.inside.start c.self.inside.cells.items (rest c) (block c)
