use Rattle.std.proofs.Common.{subst, sym}
use Rattle.awari_facts.proofs.SourceLaws.{says_still}
use Rattle.awari_facts.specs.Sources.{SaysBy}
use Rattle.awari_queries.specs.Holding.{first}
use Rattle.awari_levels.proofs.HeldLaws.{many-all}
use Rattle.awari_levels.specs.Listing.{AppendsLines, taken_boards}
use Rattle.awari_levels.specs.Walks.{IsChoice}
use Rattle.awari_levels.specs.declared.asked.Asked.{Asked}
use Rattle.awari_levels.proofs.listing.print_boards.Goals as goal

pub returns-in-None-clause-printed : goal.returns-in-None-clause-printed
returns-in-None-clause-printed g c = λ images says done.
    let chosen = c.in_ok-choice.ensures.chosen images says in
    let still = says_still c.args.asked.source _ _ images c.in_ok-choice.ensures.same.stands says in
    let printed = c.print_taken.ensures.printed images (subst (λ (a : Asked). SaysBy a.source (g.F.Folder.state c.choose.new.folder).stands images) (sym c.in_ok-choice.ensures.asked) still)
    (subst (λ (a : Asked). IsChoice a.wanted.now images a.level c.in_ok-choice.choice) (sym c.in_ok-choice.ensures.asked) chosen) done in
    subst (λ bs. AppendsLines c.args.asked.wanted.now images bs (g.W.Write.contents c.args.writer.now) (g.W.Write.contents c.print_taken.new.writer)) (many-all c.args.asked.wanted.now images c.args.asked.level c.in-None.is)
    (subst (λ (a : Asked). AppendsLines a.wanted.now images (first a.wanted.now.most (taken_boards a.wanted.now images a.level)) (g.W.Write.contents c.args.writer.now) (g.W.Write.contents c.print_taken.new.writer)) c.in_ok-choice.ensures.asked printed)
