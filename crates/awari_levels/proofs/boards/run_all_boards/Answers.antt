use Rattle.std.proofs.Common.{refl, subst, sym}
use Rattle.awari_facts.proofs.SourceLaws.{shelf_formed}
use Rattle.awari_levels.proofs.ListingLaws.{all_wanted-lines}
use Rattle.awari_levels.specs.Boards.{PrintsAllBoards}
use Rattle.awari_levels.proofs.boards.run_all_boards.Goals as goal

pub returns-clause-found : goal.returns-clause-found
returns-clause-found g c = λ done.
    subst (λ level. PrintsAllBoards (g.F.Folder.state c.args.folder.now).stands level (g.W.Write.contents c.args.writer.now) (g.W.Write.contents c.run_asked.new.writer)) (sym c.in-Some.is) (
      c.in-Ok-load_to.shelf,
      c.in-Ok-load_to.ensures.levels,
      all_wanted-lines c.in-Ok-load_to.shelf c.in-Some.level _ _ (c.run_asked.ensures.printed c.in-Ok-load_to.shelf (refl, shelf_formed c.in-Ok-load_to.shelf c.in-Ok-load_to.ensures.levels.levels.right) done),
    )
