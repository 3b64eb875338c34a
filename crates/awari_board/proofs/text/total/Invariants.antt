use Rattle.std.proofs.Common.{◌≡◌, ◌≤◌, ◌*◌, take, sum}
use Rattle.awari_board.proofs.text.total.Given as goal

abbrev pub invariant-loop-stones : goal.invariant-loop-stones
invariant-loop-stones l = record { so_far : l.total ≡ sum (take l.stones-index l.pits); small : l.total ≤ 255 * l.stones-index }
