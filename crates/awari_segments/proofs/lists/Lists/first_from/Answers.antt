use Rattle.std.proofs.Common.{◌≡◌, ◌<◌, ◌≤◌, ℕ, List, Vec, length, All, rules, arith, ap, sym, subst, ◌∙◌}
use Rattle.awari_block.specs.Blocks.{Due, due_dist}
use Rattle.awari_segments.specs.Lists.{dues_of, list_at, lists_of}
use Rattle.awari_segments.proofs.ListLemmas.{empty_all, lists_of-at}
use Rattle.awari_segments.proofs.LeastDue.{empty_next, first_of, least_from, none_below, none_from}
use Rattle.awari_segments.proofs.lists.Lists.first_from.Goals as goal

pub loop-at-init : goal.loop-at-init
loop-at-init c = λ i less.
    none_below (lists_of c.self.inside.lists.items) 0 c.args.from i (subst (λ (ls : List (List ℕ)). All (λ (f : Due). c.args.from ≤ due_dist f) (dues_of ls)) (sym c.self.view_is) c.requires.empty) (omega (arith, less))

pub loop-at-preserved : goal.loop-at-preserved
loop-at-preserved c =
    let inside : c.loop-at.at < length c.self.inside.lists.items = search rules in
    let none : length c.index.result.now.items ≡ 0 = search rules in
    empty_next c.self.inside.lists.items c.loop-at.at c.index.result.now inside c.index.ensures none c.loop-at.invariant

pub returns-then-not-is_empty-clause-least : goal.returns-then-not-is_empty-clause-least
returns-then-not-is_empty-clause-least c = (
  c.loop-at.auto.at,
  subst (λ (ls : List (List ℕ)). All (λ (f : Due). c.loop-at.at ≤ due_dist f) (dues_of ls)) c.self.view_is
      (least_from (lists_of c.self.inside.lists.items) 0 c.loop-at.at (λ i less. c.loop-at.invariant i (omega (arith, less)))),
)

pub returns-then-not-is_empty-clause-some : goal.returns-then-not-is_empty-clause-some
returns-then-not-is_empty-clause-some c =
    let inside : c.loop-at.at < length c.self.inside.lists.items = search rules in
    let some : 0 < length c.index.result.now.items = search rules in
    first_of (list_at c.args.self.now c.loop-at.at)
    (subst (λ (xs : List ℕ). 0 < length xs) (ap (λ (v : Vec ℕ _). v.items) c.index.ensures ∙ sym (lists_of-at c.self.inside.lists.items c.loop-at.at c.index.result.now inside) ∙ ap (λ ls. list_at ls c.loop-at.at) c.self.view_is) some)

pub returns-clause-none : goal.returns-clause-none
returns-clause-none c =
    let end : length c.self.inside.lists.items ≤ c.loop-at.at = search rules in
    ap dues_of (sym c.self.view_is) ∙ none_from (lists_of c.self.inside.lists.items) 0 (λ i. empty_all c.self.inside.lists.items c.loop-at.at i end c.loop-at.invariant)
