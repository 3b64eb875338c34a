use Rattle.std.proofs.Common.{◌≡◌, length, refl, subst, sym, ap, ◌∙◌}
use Rattle.awari_facts.proofs.SourceLaws.{says_still}
use Rattle.awari_facts.specs.Sources.{SaysBy}
use Rattle.awari_queries.specs.Draws.{taken}
use Rattle.awari_levels.proofs.HeldLaws.{many-held}
use Rattle.awari_levels.proofs.WalkLaws.{taken-all}
use Rattle.awari_levels.specs.Listing.{due_boards, farthest_of, taken_boards}
use Rattle.awari_levels.specs.declared.asked.Asked.{Asked}
use Rattle.awari_levels.proofs.listing.count_boards.Goals as goal

pub returns-clause-counted : goal.returns-clause-counted
returns-clause-counted g c = λ images says.
    let chosen = c.in_ok-choice.ensures.chosen images says in
    let still = says_still c.args.asked.source _ _ images c.in_ok-choice.ensures.same.stands says in
    let counted = subst (λ (a : Asked). c.in_ok-choice.choice.farthest ≡ farthest_of a.wanted.now images a.level → c.in_ok-count.count ≡ length (taken c.in_ok-choice.choice.sample (due_boards a.wanted.now images a.level)))
    c.in_ok-choice.ensures.asked (c.in_ok-count.ensures.counted images (subst (λ (a : Asked). SaysBy a.source (g.F.Folder.state c.choose.new.folder).stands images) (sym c.in_ok-choice.ensures.asked) still)) in
    c.count_first.ensures (taken_boards c.args.asked.wanted.now images c.args.asked.level)
    (counted chosen.farthest ∙ ap length (taken-all c.args.asked.wanted.now images c.args.asked.level c.in_ok-choice.choice _ chosen refl))
    ∙ many-held c.args.asked.wanted.now images c.args.asked.level
