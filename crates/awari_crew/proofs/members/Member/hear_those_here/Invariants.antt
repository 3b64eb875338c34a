use Rattle.std.proofs.Common.{◌≡◌}
use Rattle.awari_crew.specs.Members.{Kept}
use Rattle.awari_lines.specs.Rings.{owners_of}
use Rattle.awari_crew.proofs.members.Member.hear_those_here.Given as goal

abbrev pub invariant-loop-place : goal.invariant-loop-place
invariant-loop-place l = record {
  kept : Kept l.initial.self l.self;
  members : owners_of l.self.ends ≡ l.members;
}
