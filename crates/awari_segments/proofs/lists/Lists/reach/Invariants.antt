use Rattle.std.proofs.Common.{◌≡◌, ◌≤◌, ◌^◌, ℕ, length}
use Rattle.awari_segments.specs.Lists.{dues_of, lists_of, with_put}
use Rattle.awari_segments.proofs.lists.Lists.reach.Given as goal

abbrev pub invariant-loop-more : goal.invariant-loop-more
invariant-loop-more l = record {
  here : length l.self-inside.lists.items ≡ l._more;
  few : length l.self-inside.lists.items ≤ 2 ^ 32;
  dues : dues_of (lists_of l.self-inside.lists.items) ≡ dues_of (lists_of l.initial.self-inside.lists.items);
  same : (v : ℕ) → with_put (lists_of l.self-inside.lists.items) l.at v ≡ with_put (lists_of l.initial.self-inside.lists.items) l.at v;
}
