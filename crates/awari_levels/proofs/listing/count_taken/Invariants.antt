use Rattle.std.proofs.Common.{◌≡◌, ◌≤◌, ℕ, List, length}
use Rattle.awari_folder.specs.State.{Unchanged}
use Rattle.awari_table.specs.declared.images.Image.{Image}
use Rattle.awari_facts.specs.Sources.{SaysBy}
use Rattle.awari_levels.specs.Listing.{farthest_of}
use Rattle.awari_levels.specs.Walks.{Walked}
use Rattle.awari_levels.proofs.listing.count_taken.Given as goal

abbrev pub invariant-loop-rank : goal.invariant-loop-rank
invariant-loop-rank g l = record {
  few : l.walk.passed ≤ l.rank;
  fewer : l.count ≤ l.rank;
  unchanged : Unchanged (g.F.Folder.state l.fn.folder) (g.F.Folder.state l.folder);
  counted : (images : List Image) → SaysBy l.choice.asked.source (g.F.Folder.state l.fn.folder).stands images → l.choice.farthest ≡ farthest_of l.choice.asked.wanted.now images l.choice.asked.level
      → (boards : List (List ℕ)) × Walked l.choice.asked.wanted.now images l.choice.asked.level l.rank l.choice.sample boards l.walk × (l.count ≡ length boards);
}
