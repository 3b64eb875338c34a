use Rattle.std.proofs.Common.{◌≡◌, set, ◌<◌, length, rules, ap, ◌∙◌, arith}
use Rattle.awari_segments.specs.Lists.{dues_of, lists_of, with_put}
use Rattle.awari_segments.proofs.ListLemmas.{put_one, same_lists, lists_of-length}
use Rattle.awari_segments.proofs.lists.Lists.put.Goals as goal

pub index_mut-requires : goal.index_mut-requires
index_mut-requires c =
    let high : c.args.at < length c.self.inside.lists.items = omega (arith, lists_of-length c.self.inside.lists.items, ap length c.self.view_is, c.in_ok-reach.ensures.reached) in
    search (rules, high)

pub returns-clause-put : goal.returns-clause-put
returns-clause-put c =
    put_one c.self.inside.lists.items c.index_mut.result.now c.push.new.self c.args.at c.args.value (omega (arith, lists_of-length c.self.inside.lists.items, ap length c.self.view_is, c.in_ok-reach.ensures.reached)) c.index_mut.ensures.value c.in_ok-push.ensures.items
    ∙ ap (λ ls. with_put ls c.args.at c.args.value) c.self.view_is ∙ c.in_ok-reach.ensures.same c.args.value

pub returns-in_err-push-clause-refused : goal.returns-in_err-push-clause-refused
returns-in_err-push-clause-refused c =
    let high : c.args.at < length c.self.inside.lists.items = omega (arith, lists_of-length c.self.inside.lists.items, ap length c.self.view_is, c.in_ok-reach.ensures.reached) in
    let same : dues_of (lists_of (set c.self.inside.lists.items c.args.at c.push.new.self)) ≡ dues_of c.args.self.now =
    ap dues_of (same_lists c.self.inside.lists.items c.index_mut.result.now c.push.new.self c.args.at high c.index_mut.ensures.value c.in_err-push.ensures.items ∙ c.self.view_is) ∙ c.in_ok-reach.ensures.dues in
    search (rules, same)
