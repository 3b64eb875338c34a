use Rattle.std.proofs.Common.{arith, ap, subst, sym}
use Rattle.std.specs.Borrow.{Bor}
use Rattle.awari_facts.specs.Sources.{SaysBy}
use Rattle.awari_facts.specs.declared.sources.Source.{Source}
use Rattle.awari_places.proofs.Reading.{still_says}
use Rattle.awari_places.specs.Places.{AreFormed}
use Rattle.awari_levels.proofs.ListingLaws.{asked-lines}
use Rattle.awari_levels.specs.declared.wanted.Wanted.{Wanted}
use Rattle.awari_levels.proofs.boards.run_boards_said.Goals as goal

pub returns-clause-found : goal.returns-clause-found
returns-clause-found g c = λ done. record {
  opened = c.in-Ok.opened;
  framed = c.in-Ok.ensures.framed;
  known = omega (arith, c.in-Ok.ensures.only);
  said = λ images says.
      let same = c.in-Ok-read_levels.ensures.said images (still_says _ _ c.in-Ok.opened.levels images c.in-Ok.ensures.asks.unchanged.stands says) in
      let by = subst (λ (s : Source). SaysBy s (g.F.Folder.state c.read_levels.new.folder).stands images) (sym c.asked_of.ensures.source) (sym same, subst AreFormed same c.levels-levels.ensures.formed) in
      asked-lines images _ _ _ _ _ _ c.asked_of.ensures.level (ap (λ (w : Bor Wanted). w.now) c.asked_of.ensures.wanted) (c.run_asked-2.ensures.printed images by done);
}
