use Rattle.std.proofs.Common.{◌≡◌, ◌++◌, []}
use Rattle.awari_heard.specs.Filling.{PutsBlocks}
use Rattle.awari_heard.proofs.entries.closed_entries.Given as goal

abbrev pub invariant-loop-closed : goal.invariant-loop-closed
invariant-loop-closed l = record {
  whole : l.yielded ++ l.closed-iterator.rest.items ≡ l.fn.parts.items;
  puts : PutsBlocks l.yielded [] l.entries;
}
