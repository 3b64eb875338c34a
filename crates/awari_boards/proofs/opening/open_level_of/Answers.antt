use Rattle.std.proofs.Common.{◌≤◌, arith, inr, refl, sum}
use Rattle.awari_boards.proofs.opening.open_level_of.Goals as goal

pub returns-then-stones-levels-clause-fault : goal.returns-then-stones-levels-clause-fault
returns-then-stones-levels-clause-fault g c =
    let few : c.in_ok-found.found.opened.levels ≤ sum c.in_ok-found.found.board = omega arith in
    inr (record {
      board = c.in_ok-found.found.board;
      levels = c.in_ok-found.found.opened.levels;
      spelled = c.in_ok-found.ensures.opened.spelled;
      counted = (c.in_ok-found.found.opened, c.in_ok-found.ensures.opened.framed, refl);
      few = few;
      due = c.not_there.ensures.beyond _ few;
    })
