-- The board that is spread. Private functions alone go by this: no public contract does.
use Rattle.std.specs.Prelude.{◌≡◌, ℕ, sum}
use Rattle.awari_owner.specs.declared.spreads.Predecessors.{Predecessors}
use Rattle.awari_scan.specs.Found.{ListsAll}

-- a board of the level, and its predecessors
pub record ArePredecessors (level : ℕ) (p : Predecessors) : Type 0 where
  pub stones : sum p.board ≡ level
  pub listed : ListsAll p.board p.targets p.count
