use Rattle.std.proofs.Common.{length}
use Rattle.awari_check.proofs.CheckLaws.{IsChecked}
use Rattle.awari_check.proofs.checks.check.Given as goal

abbrev pub invariant-loop-shelf : goal.invariant-loop-shelf
invariant-loop-shelf l = IsChecked l.bytes l.shelf l.text

abbrev pub decreases-loop-shelf : goal.decreases-loop-shelf
decreases-loop-shelf l = length l.text.rest
