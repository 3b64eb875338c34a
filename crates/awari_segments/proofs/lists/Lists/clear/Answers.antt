use Rattle.std.proofs.Common.{◌<◌, ◌≤◌, ◌∙◌, length, length-set, rules}
use Rattle.awari_segments.proofs.ListLemmas.{empty_all, empty_more}
use Rattle.awari_segments.proofs.lists.Lists.clear.Goals as goal

pub loop-k-preserved : goal.loop-k-preserved
loop-k-preserved c =
    let inside : c.loop-k.k < length c.loop-k.self-inside.lists.items = search rules in
    record {
      long = length-set _ _ _ ∙ c.loop-k.invariant.long;
      empty = empty_more c.loop-k.self-inside.lists.items c.clear.new.self c.loop-k.k inside c.clear.ensures.items c.loop-k.invariant.empty;
    }

pub returns : goal.returns
returns c = λ at.
    let end : length c.loop-k.self-inside.lists.items ≤ c.loop-k.k = search rules in
    empty_all c.loop-k.self-inside.lists.items c.loop-k.k at end c.loop-k.invariant.empty
