-- What holds of each of a list and of the one at its place in another.
use Rattle.std.specs.Prelude.{◌≡◌, ℕ, ◌<◌, List, length, slice_index_or}

-- this holds of each of the first list and the one at its place in the second, which is as long
pub record EachTo {X : Type 0} (R : X → X → Type 0) (xs ys : List X) : Type 0 where
  pub many : length ys ≡ length xs
  pub each : (i : ℕ) (d : X) → i < length xs → R (slice_index_or xs i d) (slice_index_or ys i d)
