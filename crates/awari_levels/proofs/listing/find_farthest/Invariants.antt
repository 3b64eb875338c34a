use Rattle.std.proofs.Common.{List}
use Rattle.awari_folder.specs.State.{Unchanged}
use Rattle.awari_places.specs.Runs.{IsRunOf}
use Rattle.awari_table.specs.declared.images.Image.{Image}
use Rattle.awari_facts.specs.Sources.{SaysBy}
use Rattle.awari_levels.proofs.ChoiceLaws.{IsFarthestTo}
use Rattle.awari_levels.specs.Segments.{HasKeys}
use Rattle.awari_levels.proofs.listing.find_farthest.Given as goal

abbrev pub invariant-loop-rank : goal.invariant-loop-rank
invariant-loop-rank g l = record {
  unchanged : Unchanged (g.F.Folder.state l.fn.folder) (g.F.Folder.state l.folder);
  found : (images : List Image) → SaysBy l.asked.source (g.F.Folder.state l.fn.folder).stands images → IsRunOf images l.level l.run × (HasKeys l.asked.wanted.now images l.level l.segment × IsFarthestTo l.asked.wanted.now images l.level l.rank l.farthest);
}
