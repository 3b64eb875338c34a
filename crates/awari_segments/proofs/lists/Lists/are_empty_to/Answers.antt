use Rattle.std.proofs.Common.{◌≡◌, ◌<◌, ◌≤◌, inl, inr, ℕ, List, length, All, rules, arith, sym, subst}
use Rattle.std.proofs.lemmas.Bool.{cases_lt}
use Rattle.awari_block.specs.Blocks.{Due, due_dist}
use Rattle.awari_segments.specs.Lists.{dues_of, lists_of}
use Rattle.awari_segments.proofs.ListLemmas.{empty_all}
use Rattle.awari_segments.proofs.LeastDue.{empty_next, least_from, none_below}
use Rattle.awari_segments.proofs.lists.Lists.are_empty_to.Goals as goal

pub loop-at-init : goal.loop-at-init
loop-at-init c = λ i less.
    none_below (lists_of c.self.inside.lists.items) 0 c.args.from i (subst (λ (ls : List (List ℕ)). All (λ (f : Due). c.args.from ≤ due_dist f) (dues_of ls)) (sym c.self.view_is) c.requires.empty) (omega (arith, less))

pub loop-at-preserved : goal.loop-at-preserved
loop-at-preserved c =
    let inside : c.loop-at.at < length c.self.inside.lists.items = search rules in
    let none : length c.index.result.now.items ≡ 0 = search rules in
    empty_next c.self.inside.lists.items c.loop-at.at c.index.result.now inside c.index.ensures none c.loop-at.invariant

pub returns : goal.returns
returns c = λ _.
    subst (λ (ls : List (List ℕ)). All (λ (f : Due). c.args.end ≤ due_dist f) (dues_of ls)) c.self.view_is
    (least_from (lists_of c.self.inside.lists.items) 0 c.args.end
    (λ i less. elim (cases_lt i c.loop-at.at) [
      | inl below ↦ c.loop-at.invariant i below
      | inr beyond ↦
          let min = c.min-at-end.ensures in
          let test = c.loop-at-test.false in
          let end : length c.self.inside.lists.items ≤ c.loop-at.at = omega (arith, less, beyond, test, min) in
          empty_all c.self.inside.lists.items c.loop-at.at i end c.loop-at.invariant
    ]))
