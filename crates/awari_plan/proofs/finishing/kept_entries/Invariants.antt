use Rattle.std.proofs.Common.{[], take}
use Rattle.awari_heard.specs.Filling.{PutsBlocks}
use Rattle.awari_plan.proofs.finishing.kept_entries.Given as goal

abbrev pub invariant-loop-part : goal.invariant-loop-part
invariant-loop-part l = PutsBlocks (take l.part-index l.parts) [] l.entries
