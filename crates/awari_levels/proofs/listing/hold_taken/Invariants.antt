use Rattle.std.proofs.Common.{◌≡◌, ◌<◌, ◌≤◌, ℕ, List, All, map}
use Rattle.awari_folder.specs.State.{Unchanged}
use Rattle.awari_queries.specs.Holding.{Holds}
use Rattle.awari_queries.specs.declared.holding.Held.{Held}
use Rattle.awari_rank.specs.Rank.{size_of}
use Rattle.awari_table.specs.declared.images.Image.{Image}
use Rattle.awari_facts.specs.Sources.{SaysBy}
use Rattle.awari_levels.specs.Walks.{IsChoice, IsListed, Walked, held_of}
use Rattle.awari_levels.proofs.listing.hold_taken.Given as goal

abbrev pub invariant-loop-rank : goal.invariant-loop-rank
invariant-loop-rank g l = record {
  few : l.walk.passed ≤ l.rank;
  most : l.holding.most ≡ l.choice.asked.wanted.now.most;
  unchanged : Unchanged (g.F.Folder.state l.fn.folder) (g.F.Folder.state l.folder);
  ranks : (seen : List Held) × Holds seen l.holding × All (λ (h : Held). h.rank < size_of l.choice.asked.level) seen;
  held : (images : List Image) → SaysBy l.choice.asked.source (g.F.Folder.state l.fn.folder).stands images → IsChoice l.choice.asked.wanted.now images l.choice.asked.level l.choice
      → (boards : List (List ℕ)) × Walked l.choice.asked.wanted.now images l.choice.asked.level l.rank l.choice.sample boards l.walk
      × Holds (map (held_of l.choice.asked.wanted.now images) boards) l.holding × All (IsListed l.choice.asked.level) boards;
}
