use Rattle.std.proofs.Common.{◌≡◌, take}
use Rattle.awari_table.specs.Images.{greatest_limit}
use Rattle.awari_exports.proofs.lines.limit_below.Given as goal

abbrev pub invariant-loop-number : goal.invariant-loop-number
invariant-loop-number l = l.limit ≡ greatest_limit (take l.number l.shelf)
