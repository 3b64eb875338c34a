use Rattle.std.proofs.Common.{◌-◌, ◌≤◌, length}
use Rattle.awari_block.specs.Boards.{OpensCells, Settles}
use Rattle.awari_block.proofs.boards.Boards.open_cells.Given as goal

abbrev pub invariant-loop-index : goal.invariant-loop-index
invariant-loop-index g l = record {
  within : l.from ≤ length l.initial.self.cells;
  settles : Settles l.initial.self l.self;
  opens : OpensCells l.initial.self l.self 0 l.from;
}

abbrev pub decreases-loop-index : goal.decreases-loop-index
decreases-loop-index g l = length l.initial.self.cells - l.from
