use Rattle.awari_crew.specs.Members.{Kept}
use Rattle.awari_crew.proofs.members.Member.work.Given as goal

abbrev pub invariant-loop-turn : goal.invariant-loop-turn
invariant-loop-turn g l = Kept l.initial.self l.self
