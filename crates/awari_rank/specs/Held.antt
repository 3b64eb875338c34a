-- Where the last stones of a board lie. Private functions alone go by this: no public contract does.
use Rattle.std.specs.Prelude.{◌≡◌, ℕ, ◌+◌, ◌<◌, List, sum, drop, slice_index}

-- the last pit that holds stones, or pit 0 where none does
pub record IsLastHeld (pits : List ℕ) (pit : ℕ) : Type 0 where
  pub in_range : pit < 12
  pub holds : 0 < pit → 0 < slice_index pits pit
  pub none_after : sum (drop (pit + 1) pits) ≡ 0
