use Rattle.std.proofs.Common.{All, ◌-◌}
use Rattle.awari_table.specs.Images.{table_of}
use Rattle.awari_crew.specs.Begun.{IsBegun}
use Rattle.awari_crew.proofs.homes.scanned.Given as goal

abbrev pub invariant-loop-number : goal.invariant-loop-number
invariant-loop-number l = All (IsBegun (table_of l.member.shelf).value l.member.level) l.segments.items

abbrev pub decreases-loop-number : goal.decreases-loop-number
decreases-loop-number l = l.count - l.number
