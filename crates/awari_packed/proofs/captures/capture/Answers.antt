use Rattle.std.proofs.Common.{◌≡◌, rules}
use Rattle.awari_board.specs.Rules.{captured_pits}
use Rattle.awari_board.proofs.Capturing.{captured_pits-none, emptied-none}
use Rattle.awari_packed.specs.Packed.{pits_of}
use Rattle.awari_packed.proofs.Digits.{long-pits_of}
use Rattle.awari_packed.proofs.captures.capture.Goals as goal

pub returns-then-captured-other_stones-clause-emptied : goal.returns-then-captured-other_stones-clause-emptied
returns-then-captured-other_stones-clause-emptied c =
    let board = pits_of c.args.bits in
    let last = c.args.last in
    let none : captured_pits board last ≡ 0 = search rules in
    rw none (emptied-none board last (long-pits_of c.args.bits))

pub returns-then-not-ends_a_run-clause-emptied : goal.returns-then-not-ends_a_run-clause-emptied
returns-then-not-ends_a_run-clause-emptied c =
    rw (captured_pits-none (pits_of c.args.bits) c.args.last (c.ends_a_run.ensures.0 c.if-not-ends_a_run.true)) (emptied-none (pits_of c.args.bits) c.args.last (long-pits_of c.args.bits))
