use Rattle.std.proofs.Common.{rules, ◌≡◌, ◌<◌, ◌≤◌, IfSome, List, length, get_or, ap, sym, subst, ◌∙◌, arith}
use Rattle.std.proofs.lemmas.List.{get_or_default}
use Rattle.awari_heard.specs.Level.{no_part}
use Rattle.awari_block.specs.Part.{Part}
use Rattle.awari_core.specs.Core.{Core, IsLeastOf}
use Rattle.awari_core.proofs.Rounds.{least_more, nearer_bound}
use Rattle.awari_core.proofs.cores.Core.due.Goals as goal

pub loop-part-preserved : goal.loop-part-preserved
loop-part-preserved c =
    let parts : List Part = c.args.self.now.parts in
    let same : c.self.inside.parts.items ≡ parts = ap (λ (o : Core). o.parts) c.self.view_is in
    let items : c.deref-part-items.result.now ≡ parts = c.deref-part-items.ensures.value ∙ same in
    let low : c.loop-part.part-index < length parts = search (rules, c.loop-part-test.true, items) in
    let at : get_or parts c.loop-part.part-index no_part ≡ c.part-item.result =
    get_or_default parts c.loop-part.part-index no_part c.part-item.result low ∙ sym (c.part-item.is ∙ ap (λ (l : List Part). get_or l c.loop-part.part-index c.part-item.result) items) in
    let waves : (get_or parts c.loop-part.part-index no_part).wave ≡ (get_or parts 0 no_part).wave =
    subst (λ (l : List Part). (get_or l c.loop-part.part-index no_part).wave ≡ (get_or l 0 no_part).wave) same (c.self.invariant.sound.step.wave c.loop-part.part-index (search (rules, low, same))) in
    record {
      least = least_more parts c.loop-part.part-index c.part-item.result c.loop-part.least c.due.result c.nearer-least.result at c.loop-part.invariant.least c.due.ensures.least c.nearer-least.ensures;
      timely = nearer_bound c.loop-part.least c.due.result c.nearer-least.result (get_or parts 0 no_part).wave c.loop-part.invariant.timely
          (subst (λ w. IfSome c.due.result (λ d. w ≤ d)) (sym (ap (λ (p : Part). p.wave) at) ∙ waves) c.due.ensures.timely) c.nearer-least.ensures;
    }

pub returns-clause-least : goal.returns-clause-least
returns-clause-least c =
    let same : c.self.inside.parts.items ≡ c.args.self.now.parts = ap (λ (o : Core). o.parts) c.self.view_is in
    let items : c.deref-part-items.result.now ≡ c.args.self.now.parts = c.deref-part-items.ensures.value ∙ same in
    let whole : c.loop-part.part-index ≡ length c.args.self.now.parts = (let end = c.loop-part-test.false in let up = c.loop-part.auto.part-index-end in let len = ap (λ (l : List Part). length l) items in omega (arith, end, up, len)) in
    subst (λ n. IsLeastOf c.args.self.now.parts n c.loop-part.least) whole c.loop-part.invariant.least
