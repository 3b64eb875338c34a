use Rattle.std.proofs.Common.{List, subst}
use Rattle.awari_rank.specs.Rank.{size_of}
use Rattle.awari_index.specs.Runs.{AreWindows}
use Rattle.awari_index.specs.declared.runs.Run.{Run}
use Rattle.awari_index.proofs.index.Index.of.Goals as goal

pub invariant_of-result : goal.invariant_of-result
invariant_of-result c = record {
  low = c.requires;
  tails = c.in_ok-tails.ensures;
  runs = c.in_ok-runs.ensures;
  windows = subst (λ (rs : List Run). AreWindows 128 (size_of c.args.level) rs c.in_ok-windows.windows.items) c.as_slice.ensures.value (subst (λ s. AreWindows 128 s c.as_slice.result.now c.in_ok-windows.windows.items) c.size.ensures.boards c.in_ok-windows.ensures);
}
