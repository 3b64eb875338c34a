use Rattle.std.proofs.Common.{◌≡◌, ◌*◌, ◌^◌, ◌≤◌}
use Rattle.awari_answers.specs.Broken.{lines_below}
use Rattle.awari_answers.proofs.hints.lines_below.Given as goal

abbrev pub invariant-loop-below : goal.invariant-loop-below
invariant-loop-below l = record { is : l.lines ≡ lines_below l.below; few : l.lines ≤ l.below * 2 ^ 33 }
