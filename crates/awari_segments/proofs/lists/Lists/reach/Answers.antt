use Rattle.std.proofs.Common.{length, ap, arith, ◌∙◌, ◌+◌}
use Rattle.std.proofs.lemmas.List.{length_push}
use Rattle.awari_segments.specs.Lists.{dues_of, lists_of, with_put}
use Rattle.awari_segments.proofs.ListLemmas.{dues_grown, grown, lists_of-length}
use Rattle.awari_segments.proofs.lists.Lists.reach.Goals as goal

pub loop-more-preserved : goal.loop-more-preserved
loop-more-preserved c = record {
  here = ap length c.in_ok-push.ensures.items ∙ length_push _ _ ∙ ap (λ n. n + 1) c.loop-more.invariant.here;
  few = let h = c.loop-more.invariant.here in let t = c.loop-more-test.true in let r = c.ranges.at.fits in omega (arith, h, t, r, ap length c.in_ok-push.ensures.items, length_push c.loop-more.self-inside.lists.items c.new.result);
  dues = ap (λ ls. dues_of (lists_of ls)) c.in_ok-push.ensures.items ∙ dues_grown c.loop-more.self-inside.lists.items c.new.result 0 c.new.ensures.items ∙ c.loop-more.invariant.dues;
  same = λ v. ap (λ ls. with_put (lists_of ls) c.args.at v) c.in_ok-push.ensures.items
      ∙ grown c.loop-more.self-inside.lists.items c.new.result c.args.at v c.new.ensures.items (let h = c.loop-more.invariant.here in let t = c.loop-more-test.true in omega (arith, h, t))
      ∙ c.loop-more.invariant.same v;
}

pub returns-clause-reached : goal.returns-clause-reached
returns-clause-reached c =
    let h = c.loop-more.invariant.here in
    let t = c.loop-more-test.false in
    omega (arith, h, t, lists_of-length c.loop-more.self-inside.lists.items)
