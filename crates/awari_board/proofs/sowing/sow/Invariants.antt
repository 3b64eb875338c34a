use Rattle.std.proofs.Common.{◌≡◌, ◌≤◌}
use Rattle.awari_board.specs.Rules.{landing}
use Rattle.awari_board.proofs.Falling.{IsSowing}
use Rattle.awari_board.proofs.sowing.sow.Given as goal

abbrev pub invariant-loop-stone : goal.invariant-loop-stone
invariant-loop-stone l = record {
  sowing : IsSowing l.fn.pits l.origin l._stone l.pits;
  first : l._stone ≡ 0 → l.last ≡ l.origin;
  later : 1 ≤ l._stone → l.last ≡ landing l.origin l._stone;
}
