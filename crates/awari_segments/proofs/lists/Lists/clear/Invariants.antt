use Rattle.std.proofs.Common.{◌≡◌, length}
use Rattle.awari_segments.proofs.ListLemmas.{AreEmpty}
use Rattle.awari_segments.proofs.lists.Lists.clear.Given as goal

abbrev pub invariant-loop-k : goal.invariant-loop-k
invariant-loop-k l = record {
  long : length l.self-inside.lists.items ≡ length l.initial.self-inside.lists.items;
  empty : AreEmpty l.self-inside.lists.items l.k;
}
