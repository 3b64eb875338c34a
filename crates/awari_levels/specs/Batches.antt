-- Lines that are kept before they are written. Private functions alone go by this: no public contract does.
use Rattle.std.specs.Prelude.{◌≡◌, ℕ, List, ◌++◌, Option}
use Rattle.std.specs.Io.KnownBytes.{Appends}

-- what was written and what is kept now are what was kept before, and this text
abbrev pub Passes : Option (List ℕ) → Option (List ℕ) → List ℕ → List ℕ → List ℕ → Type 0
Passes before after kept keeps text = (written : List ℕ) × Appends before after written × (written ++ keeps ≡ kept ++ text)
