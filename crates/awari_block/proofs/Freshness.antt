-- What the fresh boards of a part are.
use Rattle.std.proofs.Common.{◌≡◌, ℕ, ◌≤◌, Bool, true, false, if◌then◌else◌, List, All, ℤ, Some, ap, arith}
use Rattle.std.proofs.lemmas.Bool.{false≢true}
use Rattle.std.proofs.lemmas.List.Elements.{All-from_recursion, recursion_from_All}
use Rattle.awari_block.specs.Cells.{is_settled, status_by, status_of}
use Rattle.awari_block.specs.Blocks.{Due, due_rank, due_dist, cell_in, is_settled_in, times_due, IsDueAs, IsBlock}
use Rattle.awari_block.specs.Part.{AreFresh, IsFreshIn, part_of, settled_by}
use Rattle.awari_block.specs.declared.cells.Cell.{Cell}
use Rattle.awari_block.specs.declared.cells.Mark.{Mark}
use Rattle.awari_block.specs.declared.cells.Mark.TheVariants as mark
use Rattle.awari_block.specs.declared.stakes.Stake.{Stake}
use Rattle.awari_block.proofs.BlockLemmas.{all_both, due_settled, settled_inside}

-- a settled cell of this distance
pub settled_cell : (c : Cell) (d : ℕ) → is_settled c.mark ≡ true → c.dist ≡ d → settled_by (status_of c) ≡ Some (c.score, d)
settled_cell c d settled near = at c.mark settled c.score c.plans c.dist near
  where
    at : (m : Mark) → is_settled m ≡ true → (score : ℤ) (plans dist : ℕ) → dist ≡ d → settled_by (status_by m score plans dist) ≡ Some (score, d)
    at mark.Settled e score plans dist near = ap (λ n. Some (score, n)) near
    at mark.Ended e score plans dist near = absurd (false≢true e)
    at mark.Quiet e score plans dist near = absurd (false≢true e)
    at mark.Capturing e score plans dist near = absurd (false≢true e)
    at mark.Noted e score plans dist near = absurd (false≢true e)

-- the fresh boards are settled ones of the block, each once
pub fresh_of_block : (stake : Stake) (start : ℕ) (cells : List Cell) (fresh : List Due) → IsBlock stake start cells fresh → AreFresh (part_of stake start cells fresh)
fresh_of_block stake start cells fresh sound = record {
  boards = All-from_recursion (IsFreshIn (part_of stake start cells fresh)) fresh
      (all_both (λ (f : Due). is_settled_in start cells (due_rank f) ≡ true) (λ (f : Due). IsDueAs stake f (cell_in start cells (due_rank f))) (IsFreshIn (part_of stake start cells fresh)) fresh one
      (due_settled (is_settled_in start cells) fresh sound.settled) (recursion_from_All _ fresh sound.due));
  once = λ rank. at_most (is_settled_in start cells rank) (times_due fresh rank) (sound.settled rank);
}
  where
    one : (f : Due) → is_settled_in start cells (due_rank f) ≡ true → IsDueAs stake f (cell_in start cells (due_rank f)) → IsFreshIn (part_of stake start cells fresh) f
    one f settled due =
        let inside = settled_inside start cells (due_rank f) settled in
        let cell = cell_in start cells (due_rank f) in
        let timely = due.timely in
        (cell.score, (inside.0, inside.1), due.valued, settled_cell cell (due_dist f) inside.2 due.near, omega (arith, timely, due.near))

    at_most : (b : Bool) (n : ℕ) → n ≤ (if b then 1 else 0) → n ≤ 1
    at_most true n h = h
    at_most false n h = omega (arith, h)

-- a wave may be opened that none of them comes before
pub later_block : (stake : Stake) (start : ℕ) (cells : List Cell) (fresh : List Due) (wave : ℕ) → All (λ f. wave ≤ due_dist f) fresh → IsBlock stake start cells fresh → IsBlock (record stake { wave = wave }) start cells fresh
later_block stake start cells fresh wave far sound = record {
  fit = sound.fit;
  settled = sound.settled;
  due = λ k d h. let due = sound.due k d h in let near = due.near in let least = far k d h in record { near = near; timely = omega (arith, near, least); valued = due.valued };
}
