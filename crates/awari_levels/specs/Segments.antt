-- Boards of a level in a row that were looked at. Private functions alone go by this: no public contract does.
use Rattle.std.specs.Prelude.{◌≡◌, ℕ, ◌+◌, ◌<◌, List, length, Some, slice_get}
use Rattle.awari_rank.specs.Tuples.{tuples}
use Rattle.awari_table.specs.declared.images.Image.{Image}
use Rattle.awari_levels.specs.Listing.{key_if}
use Rattle.awari_levels.specs.declared.segments.Segment.{Segment}
use Rattle.awari_levels.specs.declared.wanted.Wanted.{Wanted}

-- those from the first one on have these keys
pub record HasKeys (wanted : Wanted) (images : List Image) (level : ℕ) (segment : Segment) : Type 0 where
  pub keys : (first k : ℕ) (board : List ℕ) → segment.first ≡ Some first → k < length segment.keys.items → slice_get (tuples 12 level) (first + k) ≡ Some board
      → slice_get segment.keys.items k ≡ Some (key_if wanted images board)
