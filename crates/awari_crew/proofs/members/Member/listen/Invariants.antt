use Rattle.awari_crew.specs.Members.{Kept}
use Rattle.awari_crew.proofs.members.Member.listen.Given as goal

abbrev pub invariant-loop-looks : goal.invariant-loop-looks
invariant-loop-looks g l = Kept l.initial.self l.self
