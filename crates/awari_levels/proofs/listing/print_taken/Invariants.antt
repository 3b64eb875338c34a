use Rattle.std.proofs.Common.{◌≤◌, ℕ, List, length}
use Rattle.awari_folder.specs.State.{Unchanged}
use Rattle.awari_table.specs.declared.images.Image.{Image}
use Rattle.awari_facts.specs.Sources.{SaysBy}
use Rattle.awari_levels.proofs.ListingLaws.{Lists}
use Rattle.awari_levels.proofs.WalkLaws.{IsLeft}
use Rattle.awari_levels.specs.Walks.{IsChoice, Walked}
use Rattle.awari_levels.proofs.listing.print_taken.Given as goal

abbrev pub invariant-loop-rank : goal.invariant-loop-rank
invariant-loop-rank g l = record {
  few : l.walk.passed ≤ l.rank;
  unchanged : Unchanged (g.F.Folder.state l.fn.folder) (g.F.Folder.state l.folder);
  listed : (images : List Image) → SaysBy l.choice.asked.source (g.F.Folder.state l.fn.folder).stands images → IsChoice l.choice.asked.wanted.now images l.choice.asked.level l.choice
      → (boards : List (List ℕ)) × Walked l.choice.asked.wanted.now images l.choice.asked.level l.rank l.choice.sample boards l.walk
      × Lists l.choice.asked.wanted.now images boards (g.W.Write.contents l.fn.writer) (g.W.Write.contents l.writer) l.batch.items
      × IsLeft l.choice.asked.wanted.now.most l.left (length boards);
}
