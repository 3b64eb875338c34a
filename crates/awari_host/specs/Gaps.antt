-- Which levels have files.
use Rattle.std.specs.Prelude.{◌≡◌, ℕ, ◌+◌, ◌<◌, ◌≤◌, List, Bool, true, false, Some, slice_get}
use Rattle.awari_table.specs.declared.TheConstants.{HIGHEST_LEVEL}

-- each level below this one has a file, and this one has none unless it is above the highest
pub record IsFirstMissing (files : List Bool) (level : ℕ) : Type 0 where
  pub low : level ≤ HIGHEST_LEVEL + 1
  pub below : (k : ℕ) → k < level → slice_get files k ≡ Some true
  pub missing : level ≤ HIGHEST_LEVEL → slice_get files level ≡ Some false

-- a level above this one has a file
abbrev pub HasAbove : List Bool → ℕ → Type 0
HasAbove files missing = (level : ℕ) × (missing < level) × (slice_get files level ≡ Some true)
