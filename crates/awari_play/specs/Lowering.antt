-- Distances lowered board by board. Private functions alone go by this: no public contract does.
use Rattle.std.specs.Prelude.{◌≡◌, ◌≢◌, ℕ, ◌+◌, ◌<◌, ◌≤◌, ◌⊎◌, min, max, Bool, true, false, List, sum, length, ℤ, pos, ◌<ℤ◌, Option, Some, None, slice_index_or, slice_set}
use Rattle.std.specs.List.{sum_by}
use Rattle.awari_board.specs.Rules.{IsBoard, IsEnded}
use Rattle.awari_rank.specs.Rank.{rank_of}
use Rattle.awari_table.specs.Certificate.{Table, GainsIn, GainsNoSooner, MovesIn, MovesNoLater}
use Rattle.awari_table.specs.declared.images.Entry.{Entry}
use Rattle.awari_table.specs.declared.images.Image.{Image}
use Rattle.awari_table.specs.Images.{table_of, no_entry}
use Rattle.awari_table.specs.Reached.{gain_of}
use Rattle.awari_table.specs.declared.rules.Reached.{Reached}
use Rattle.awari_play.specs.Planning.{with_top}

-- no distance is below what the moves say
pub record IsAbove (t : Table) (p : List ℕ) : Type 0 where
  pub even : t.value p ≡ pos 0 → t.dist p ≡ 0
  pub ends : IsEnded p → t.dist p ≡ 0
  pub won : (IsEnded p → ⊥) → pos 0 <ℤ t.value p → (k : ℕ) × GainsIn t p k × (k ≤ t.dist p)
  pub lost : t.value p <ℤ pos 0 → MovesNoLater t p (t.dist p)

-- the fewest plies of a move that gains a positive value, or the distance that there is where that is less
abbrev pub IsNearest : Table → List ℕ → ℕ → Type 0
IsNearest t p k = GainsNoSooner t p k × ((k ≡ t.dist p) ⊎ GainsIn t p k)

-- the most plies of a move, 0 where there is none
abbrev pub IsFarthest : Table → List ℕ → ℕ → Type 0
IsFarthest t p k = MovesNoLater t p k × ((k ≡ 0) ⊎ MovesIn t p k)

-- the distance that the moves give
pub record IsByMoves (t : Table) (p : List ℕ) (k : ℕ) : Type 0 where
  pub even : t.value p ≡ pos 0 → k ≡ t.dist p
  pub won : pos 0 <ℤ t.value p → IsNearest t p k
  pub lost : t.value p <ℤ pos 0 → IsFarthest t p k

-- What the moves give is not below the distance, or not below this number where that is less.
pub record IsBelowTo (most : ℕ) (t : Table) (p : List ℕ) : Type 0 where
  pub won : pos 0 <ℤ t.value p → GainsNoSooner t p (min (t.dist p) most)
  pub lost : t.value p <ℤ pos 0 → (min (t.dist p) most ≡ 0) ⊎ ((k : ℕ) × MovesIn t p k × (min (t.dist p) most ≤ k))

abbrev pub IsBelow : Table → List ℕ → Type 0
IsBelow t p = IsBelowTo (t.dist p) t p

abbrev pub AreAbove : List Image → List Entry → Type 0
AreAbove shelf entries = (p : List ℕ) → IsBoard p → sum p ≡ length shelf → IsAbove (table_of (with_top shelf entries)) p

abbrev pub AreBelowTo : ℕ → List Image → List Entry → Type 0
AreBelowTo most shelf entries = (p : List ℕ) → IsBoard p → sum p ≡ length shelf → IsBelowTo most (table_of (with_top shelf entries)) p

abbrev pub AreBelow : List Image → List Entry → Type 0
AreBelow shelf entries = (p : List ℕ) → IsBoard p → sum p ≡ length shelf → IsBelow (table_of (with_top shelf entries)) p

-- the most plies so far, and those of one more move
abbrev pub farther_by : ℕ → Option Reached → ℕ
farther_by far None = far
farther_by far (Some m) = max far m.plies

-- the fewest plies so far of a move that gains the value, and those of one more move, if it gains it
abbrev pub IsNearerBy : ℤ → ℕ → Option Reached → ℕ → Type 0
IsNearerBy value near None k = k ≡ near
IsNearerBy value near (Some m) k = ((gain_of m ≡ value) × (k ≡ min near m.plies)) ⊎ ((gain_of m ≢ value) × (k ≡ near))

-- the entry with a smaller distance, or none where its own is not above this
abbrev pub IsLowered : Entry → ℕ → Option Entry → Type 0
IsLowered e dist None = e.dist ≤ dist
IsLowered e dist (Some f) = (dist < e.dist) × (f ≡ record e { dist = dist })

-- the distance of this rank is lowered, or is not above this
abbrev pub Lowers : List Entry → List Entry → ℕ → ℕ → Bool → Type 0
Lowers old new rank dist true =
    (dist < (slice_index_or old rank no_entry).dist) × (new ≡ slice_set old rank (record (slice_index_or old rank no_entry) { dist = dist }))
Lowers old new rank dist false = (new ≡ old) × ((slice_index_or old rank no_entry).dist ≤ dist)

-- the sum of the distances
abbrev pub all_plies : List Entry → ℕ
all_plies entries = sum_by (λ e. e.dist) entries

-- A distance up to `near` is left. That of a farther board falls to what its moves give, or is not above that.
abbrev pub LowersBoard : List Image → List Entry → List Entry → ℕ → ℕ → Bool → Type 0
LowersBoard shelf old new near rank fell =
    (((slice_index_or old rank no_entry).dist ≤ near) × (new ≡ old) × (fell ≡ false))
    ⊎ ((near < (slice_index_or old rank no_entry).dist)
    × ((board : List ℕ) × (dist : ℕ) × IsBoard board × (sum board ≡ length shelf) × (rank_of board ≡ rank) × IsByMoves (table_of (with_top shelf old)) board dist × Lowers old new rank dist fell))

-- distances fell, and those of boards that are below to this number are so to one more; or none had to fall
abbrev pub Fell : List Image → List Entry → List Entry → ℕ → Bool → Type 0
Fell shelf old new near true = (all_plies new < all_plies old) × AreBelowTo (near + 1) shelf new
Fell shelf old new near false = (new ≡ old) × AreBelow shelf old
