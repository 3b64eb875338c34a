use Rattle.std.proofs.Common.{◌≡◌, ◌<◌, ◌≤◌, ◌++◌, ℕ, Vec, length, rules, ap, sym, ◌∙◌, append-nil}
use Rattle.awari_segments.specs.Lists.{list_at, without}
use Rattle.awari_segments.proofs.ListLemmas.{lists_of-at, past_end, without_none, without_one}
use Rattle.awari_segments.proofs.lists.Lists.give.Goals as goal

pub returns-then-at-len-clause-count : goal.returns-then-at-len-clause-count
returns-then-at-len-clause-count c =
    let high : c.args.at < length c.self.inside.lists.items = search rules in
    let read : c.index.result.now.items ≡ list_at c.args.self.now c.args.at =
    ap (λ (v : Vec ℕ _). v.items) c.index.ensures ∙ sym (lists_of-at c.self.inside.lists.items c.args.at c.index.result.now high) ∙ ap (λ ls. list_at ls c.args.at) c.self.view_is in
    c.len-count.ensures ∙ c.index.result.now.ok.0 ∙ ap length read

pub returns-then-at-len-clause-given : goal.returns-then-at-len-clause-given
returns-then-at-len-clause-given c =
    let high : c.args.at < length c.self.inside.lists.items = search rules in
    c.in_ok-extend_from_slice.ensures.items
    ∙ ap (λ l. c.args.to.now.items ++ l)
    (c.as_slice.ensures.value ∙ ap (λ (v : Vec ℕ _). v.items) c.index-then-at-len.ensures ∙ sym (lists_of-at c.self.inside.lists.items c.args.at c.index-then-at-len.result.now high) ∙ ap (λ ls. list_at ls c.args.at) c.self.view_is)

pub returns-then-at-len-clause-left : goal.returns-then-at-len-clause-left
returns-then-at-len-clause-left c =
    let high : c.args.at < length c.self.inside.lists.items = search rules in
    without_one c.self.inside.lists.items c.args.at c.empty.new.list high c.empty.ensures ∙ ap (λ ls. without ls c.args.at) c.self.view_is

pub returns-clause-count : goal.returns-clause-count
returns-clause-count c =
    let end : length c.self.inside.lists.items ≤ c.args.at = search rules in
    sym (ap length (ap (λ ls. list_at ls c.args.at) (sym c.self.view_is) ∙ past_end c.self.inside.lists.items c.args.at end))

pub returns-clause-given : goal.returns-clause-given
returns-clause-given c =
    let end : length c.self.inside.lists.items ≤ c.args.at = search rules in
    sym (ap (λ l. c.args.to.now.items ++ l) (ap (λ ls. list_at ls c.args.at) (sym c.self.view_is) ∙ past_end c.self.inside.lists.items c.args.at end) ∙ append-nil c.args.to.now.items)

pub returns-clause-left : goal.returns-clause-left
returns-clause-left c =
    let end : length c.self.inside.lists.items ≤ c.args.at = search rules in
    sym (ap (λ ls. without ls c.args.at) (sym c.self.view_is) ∙ without_none c.self.inside.lists.items c.args.at end ∙ c.self.view_is)
