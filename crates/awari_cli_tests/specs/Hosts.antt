-- The folders that the host in memory keeps.
use Rattle.std.specs.Prelude.{◌≡◌, ◌⊎◌, List, ℕ, codes}

-- the name of one of its two folders
abbrev pub IsKept : List ℕ → Type 0
IsKept name = (name ≡ codes "first") ⊎ (name ≡ codes "second")
