use Rattle.std.proofs.Common.{◌≡◌, ◌++◌, map}
use Rattle.awari_block.specs.Notes.{Has}
use Rattle.awari_crew.specs.Homes.{ends_from}
use Rattle.awari_crew.specs.declared.members.Member.{Member}
use Rattle.awari_crew.proofs.Homing.{IsMemberOf}
use Rattle.awari_crew.proofs.making.crew.Given as goal

abbrev pub invariant-loop-ends : goal.invariant-loop-ends
invariant-loop-ends l = record {
  whole : l.yielded ++ l.ends-iterator.rest.items ≡ l.initial.ends-iterator.rest.items;
  ends : map ends_from l.all.items ≡ l.yielded;
  each : (m : Member) → Has l.all.items m → IsMemberOf l.task.shelf l.task.log m;
}
