use Rattle.std.proofs.Common.{ℕ, List, take}
use Rattle.awari_folder.specs.State.{Unchanged}
use Rattle.awari_table.specs.declared.images.Image.{Image}
use Rattle.awari_facts.specs.Sources.{SaysBy}
use Rattle.awari_levels.proofs.ListingLaws.{Lists}
use Rattle.awari_levels.specs.Walks.{AreHeld}
use Rattle.awari_levels.proofs.listing.print_held.Given as goal

abbrev pub invariant-loop-place : goal.invariant-loop-place
invariant-loop-place g l = record {
  unchanged : Unchanged (g.F.Folder.state l.fn.folder) (g.F.Folder.state l.folder);
  listed : (images : List Image) → SaysBy l.asked.source (g.F.Folder.state l.fn.folder).stands images → (boards : List (List ℕ)) → AreHeld l.asked.wanted.now images l.asked.level boards l.held
      → Lists l.asked.wanted.now images (take l.place boards) (g.W.Write.contents l.fn.writer) (g.W.Write.contents l.writer) l.batch.items;
}
