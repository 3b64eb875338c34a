-- Stones of a sowing taken back, one after the other.
use Rattle.std.specs.Prelude.{ℕ, zero, suc, ◌+◌, ◌-◌, List, slice_index, slice_set}

-- a stone of each of the k pits after pit x taken back into it
unfoldable pub taken_back : List ℕ → ℕ → ℕ → List ℕ
taken_back board x zero = board
taken_back board x (suc k) =
    let left = taken_back board x k in
    slice_set (slice_set left (x + k + 1) (slice_index left (x + k + 1) - 1)) x (slice_index left x + 1)
