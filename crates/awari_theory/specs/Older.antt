-- The older rules, whose V6 asks only that distances fall along the plans. The least distances do so too, and proofs go by this.
use Rattle.std.specs.Prelude.{◌≡◌, ◌≢◌, ℕ, ◌<◌, ◌≤◌, ◌⊎◌, List, sum, pos, ◌<ℤ◌, Some}
use Rattle.awari_board.specs.Rules.{IsBoard, IsMove, IsEnded}
use Rattle.awari_table.specs.declared.TheConstants.{HIGHEST_FALLING_LEVEL}
use Rattle.awari_table.specs.declared.images.Image.{Image}
use Rattle.awari_table.specs.Certificate.{Table, IsRightBy}
use Rattle.awari_table.specs.Shelves.{ConsistentBy}

-- The older V6: at value 0 the distance is 0; any other board not ended has at least 1; the plan of a positive board captures or
-- leads to a smaller distance; and each quiet move of a negative board leads to a smaller distance.
pub record DistancesFall (t : Table) (p : List ℕ) : Type 0 where
  pub even : t.value p ≡ pos 0 → t.dist p ≡ 0
  pub uneven : (IsEnded p → ⊥) → t.value p ≢ pos 0 → 1 ≤ t.dist p
  pub winning : pos 0 <ℤ t.value p → (x c : ℕ) (q : List ℕ) → t.plan p ≡ Some x → IsMove p x c q → (0 < c) ⊎ (t.dist q < t.dist p)
  pub losing : t.value p <ℤ pos 0 → (x : ℕ) (q : List ℕ) → IsMove p x 0 q → t.dist q < t.dist p

-- All boards with fewer than `levels` stones are right by the older rules, and no distance among them is above the limit.
pub record IsCertificate (t : Table) (levels limit : ℕ) : Type 0 where
  pub right : (p : List ℕ) → IsBoard p → sum p < levels → IsRightBy DistancesFall t p
  pub limited : (p : List ℕ) → IsBoard p → sum p < levels → t.dist p ≤ limit

-- The image may stand above the shelf by the older rules, which are for fewer levels.
abbrev pub ConsistentOld : List Image → Image → Type 0
ConsistentOld shelf image = (image.level ≤ HIGHEST_FALLING_LEVEL) × ConsistentBy DistancesFall shelf image
