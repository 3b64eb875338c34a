-- What the boards of a block are once another cell stands in place of one.
use Rattle.std.proofs.Common.{◌≡◌, ℕ, ◌-◌, true, false, List, ◌∷◌, get_or, set, inl, inr, sym, ap, subst, ◌∙◌, arith}
use Rattle.std.proofs.lemmas.Int.{ints}
use Rattle.std.proofs.lemmas.List.{get_or_default}
use Rattle.std.specs.List.Sorted.{IsPermutation}
use Rattle.std.specs.Vec.{with_item}
use Rattle.awari_block.specs.declared.boards.Boards.TheInside.{Inside}
use Rattle.awari_block.specs.declared.cells.Cell.{Cell}
use Rattle.awari_block.specs.Blocks.{Due, cell_in, no_cell, IsBlock}
use Rattle.awari_block.specs.Boards.{CanPut, Joins, Settles}
use Rattle.awari_block.specs.BoardsFields.{IsBoards}
use Rattle.awari_block.specs.Cells.{is_settled}
use Rattle.awari_block.specs.FreshSets.{CanJoin, KeepFresh}
use Rattle.awari_block.specs.Part.{Part, part_of, stored_at}
use Rattle.awari_block.proofs.Awaiting.{awaited_put}
use Rattle.awari_block.proofs.BlockLemmas.{put_keeps, some_unsettled}
use Rattle.awari_block.proofs.Settling.{joined, joined_block, joined_settles, kept, kept_block, kept_settles}

module _ {F : Type 0} (dues : F → List Due) (right : ℕ → List Cell → F → Type 0) where
  -- what callers see of these boards
  abbrev pub seen : Inside F → Part
  seen a = part_of a.stake a.start a.cells.items (dues a.fresh)

  -- the boards with this cell for that of the board of this rank, and with what is kept of the fresh ones
  abbrev pub with_cell : Inside F → ℕ → Cell → F → Inside F
  with_cell a rank new fresh = record { start = a.start; stake = a.stake; cells = with_item a.cells (rank - a.start) new; fresh = fresh; awaits = a.awaits; spread = a.spread }

  -- the cell that is read
  pub cell_read : (a : Inside F) (part : Part) (rank : ℕ) (old new : Cell) → seen a ≡ part → CanPut part rank new → old ≡ get_or a.cells.items (rank - a.start) old → cell_in a.start a.cells.items rank ≡ old
  cell_read a part rank old new view can read = get_or_default a.cells.items (rank - a.start) no_cell old (subst (λ (o : Part). CanPut o rank new) (sym view) can).held.1 ∙ sym read

  module _ (a : Inside F) (sound : IsBoards dues right a) (part : Part) (view : seen a ≡ part) (rank : ℕ) (old new : Cell) (can_here : CanPut part rank new) (was : cell_in a.start a.cells.items rank ≡ old) where
    abbrev fresh : List Due
    fresh = dues a.fresh

    abbrev after : List Cell
    after = set a.cells.items (rank - a.start) new

    can : CanPut (seen a) rank new
    can = subst (λ (o : Part). CanPut o rank new) (sym view) can_here

    keep : KeepFresh a.start a.cells.items after fresh
    keep = put_keeps a.stake a.start a.cells.items fresh rank new can.held.0 can.held.1 sound.block can.steps.keeps

    still : (rest : F) → right a.start after rest → Settles (seen a) (seen (with_cell a rank new rest)) → IsBlock a.stake a.start after (dues rest) → IsBoards dues right (with_cell a rank new rest)
    still rest is_right settles block = record {
      low = sound.low;
      opened = sound.opened;
      inward = sound.inward;
      fits = sound.fits;
      within = sound.within;
      right = is_right;
      block = block;
      awaited = awaited_put a.stake.level (rank - a.start) a.cells.items a.awaits.items new can.held.1 can.steps.awaits sound.awaited;
      count = let count = sound.count in let same = settles.unspread in let size = settles.size in omega (arith, count, same, size);
    }

    -- a board that this settles
    module _ (settled : is_settled new.mark ≡ true) (unset : is_settled old.mark ≡ false) where
      unset_here : is_settled (cell_in a.start a.cells.items rank).mark ≡ false
      unset_here = ap (λ (c : Cell). is_settled c.mark) was ∙ unset

      pub put_new : CanJoin dues right a.start a.cells.items a.fresh rank new
      put_new = record {
        low = can.held.0;
        inside = can.held.1;
        right = sound.right;
        room = let count = sound.count in let some = some_unsettled a.cells.items (rank - a.start) can.held.1 unset_here in omega (arith, count, some);
        others = keep;
        valued = λ zero. let one = sound.opened in elim ((can.steps.timely unset_here settled).0) [
          | inl won ↦ omega (arith, ints, zero, won, one)
          | inr lost ↦ omega (arith, ints, zero, lost, one)
        ];
      }

      module _ (rest : F) (joins : IsPermutation ((new.dist, rank) ∷ fresh) (dues rest)) where
        pub joined_boards : (CanJoin dues right a.start a.cells.items a.fresh rank new → right a.start after rest) → IsBoards dues right (with_cell a rank new rest)
        joined_boards is_right =
            still rest (is_right put_new) (joined_settles a.stake a.start a.cells.items fresh sound.block rank new can settled unset_here (dues rest) joins)
            (joined_block a.stake a.start a.cells.items fresh sound.block rank new can settled unset_here (dues rest) joins)

        pub joined_seen : Settles part (seen (with_cell a rank new rest))
        joined_seen = subst (λ (o : Part). Settles o (seen (with_cell a rank new rest))) view (joined_settles a.stake a.start a.cells.items fresh sound.block rank new can settled unset_here (dues rest) joins)

        pub joined_fresh : Joins (stored_at part rank) new rank part.fresh (dues rest)
        joined_fresh = subst (λ (o : Part). Joins (stored_at o rank) new rank o.fresh (dues rest)) view (joined a.stake a.start a.cells.items fresh sound.block rank new can settled unset_here (dues rest) joins)

    -- and one that it does not
    module _ (stays : (start : ℕ) (cells after : List Cell) (f : F) → KeepFresh start cells after (dues f) → right start cells f → right start after f) (back : is_settled new.mark ≡ true → is_settled old.mark ≡ true) where
      back_here : is_settled new.mark ≡ true → is_settled (cell_in a.start a.cells.items rank).mark ≡ true
      back_here settled = ap (λ (c : Cell). is_settled c.mark) was ∙ back settled

      kept_at : Settles (seen a) (seen (with_cell a rank new a.fresh))
      kept_at = kept_settles a.stake a.start a.cells.items fresh sound.block rank new can back_here

      pub kept_boards : IsBoards dues right (with_cell a rank new a.fresh)
      kept_boards = still a.fresh (stays a.start a.cells.items after a.fresh keep sound.right) kept_at (kept_block a.stake a.start a.cells.items fresh sound.block rank new can back_here)

      pub kept_seen : Settles part (seen (with_cell a rank new a.fresh))
      kept_seen = subst (λ (o : Part). Settles o (seen (with_cell a rank new a.fresh))) view kept_at

      pub kept_fresh : Joins (stored_at part rank) new rank part.fresh (dues a.fresh)
      kept_fresh = subst (λ (o : Part). Joins (stored_at o rank) new rank o.fresh (dues a.fresh)) view (kept a.stake a.start a.cells.items fresh sound.block rank new can back_here)
