use Rattle.std.proofs.Common.{◌<◌, ◌≤◌, Vec, rules, ℕ, length, sym, ap, ◌∙◌}
use Rattle.awari_segments.specs.Lists.{list_at}
use Rattle.awari_segments.proofs.ListLemmas.{lists_of-at, past_end}
use Rattle.awari_segments.proofs.lists.Lists.list.Goals as goal

pub returns-then-at-len : goal.returns-then-at-len
returns-then-at-len c =
    let high : c.args.at < length c.self.inside.lists.items = search rules in
    c.as_slice.ensures.value ∙ ap (λ (v : Vec ℕ _). v.items) c.index.ensures ∙ sym (lists_of-at c.self.inside.lists.items c.args.at c.index.result.now high)
    ∙ ap (λ ls. list_at ls c.args.at) c.self.view_is

pub returns : goal.returns
returns c =
    let high : length c.self.inside.lists.items ≤ c.args.at = search rules in
    sym (past_end c.self.inside.lists.items c.args.at high) ∙ ap (λ ls. list_at ls c.args.at) c.self.view_is
