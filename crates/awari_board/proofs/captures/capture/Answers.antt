use Rattle.std.proofs.Common.{◌≡◌, rules}
use Rattle.awari_board.specs.Rules.{captured_pits}
use Rattle.awari_board.proofs.Capturing.{captured_pits-none, captured_stones-none, emptied-none}
use Rattle.awari_board.proofs.captures.capture.Goals as goal

pub returns-then-captured-other_stones-clause-emptied : goal.returns-then-captured-other_stones-clause-emptied
returns-then-captured-other_stones-clause-emptied c =
    let board = c.args.pits.now in
    let last = c.args.last in
    let none : captured_pits board last ≡ 0 = search rules in
    rw none (emptied-none board last (search rules))

pub returns-then-not-ends_a_run-clause-stones : goal.returns-then-not-ends_a_run-clause-stones
returns-then-not-ends_a_run-clause-stones c = captured_stones-none c.args.pits.now c.args.last (c.ends_a_run.ensures.0 c.if-not-ends_a_run.true)

pub returns-then-not-ends_a_run-clause-emptied : goal.returns-then-not-ends_a_run-clause-emptied
returns-then-not-ends_a_run-clause-emptied c =
    rw (captured_pits-none c.args.pits.now c.args.last (c.ends_a_run.ensures.0 c.if-not-ends_a_run.true)) (emptied-none c.args.pits.now c.args.last (search rules))

pub returns-clause-stones : goal.returns-clause-stones
returns-clause-stones c = search rules

pub returns-clause-emptied : goal.returns-clause-emptied
returns-clause-emptied c = search rules
