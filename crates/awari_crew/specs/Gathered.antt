-- The segments of a level, each within one multiple of this many boards. Private functions alone go by this.
use Rattle.std.specs.Prelude.{◌≡◌, ℕ, ◌/◌, List}
use Rattle.awari_block.specs.Notes.{Has}
use Rattle.awari_block.specs.Part.{Part, InBlock}

abbrev pub IsAligned : ℕ → Part → Type 0
IsAligned span part = (rank : ℕ) → InBlock part rank → rank / span ≡ part.start / span

abbrev pub AreAligned : ℕ → List Part → Type 0
AreAligned span parts = (part : Part) → Has parts part → IsAligned span part
